-- What is put in a tree: an empty file, a directory, and a file of one block. This project's own.
use Rattle.std.specs.Prelude.{[], ◌∷◌, pos, false, None}
use Rattle.up_entry.specs.declared.entries.Block.{Block}
use Rattle.up_entry.specs.declared.entries.Kind.TheVariants.{Directory, File}
use Rattle.up_entry.specs.declared.puts.Checked.{Checked}
use Rattle.up_entry.specs.declared.puts.PutEntry.{PutEntry}
use Rattle.up_names.specs.PathNames.{PathName}
use Rattle.up_names.specs.Texts.{Text, UserName}

-- an empty file, as a user hands it to Put, with time and sequence 0
abbrev pub file_put : UserName → Text → PutEntry
file_put user text = record {
  signed_name = text;
  packing = 1;
  time = pos 0;
  blocks = [];
  packdata = [];
  link = [];
  writer = user;
  name = text;
  attr = 0;
  sequence = pos 0;
}

-- the entry of it, once it is read
abbrev pub new_file : UserName → PathName → Checked
new_file user path = record {
  entry = record {
    signed_name = path;
    packing = 1;
    time = pos 0;
    blocks = [];
    packdata = [];
    link = None;
    writer = user;
    name = path;
    attr = record { kind = File; incomplete = false };
    sequence = 0;
  };
  sequence = pos 0;
}

-- a directory, as its owner hands it to Put, with time and sequence 0
abbrev pub directory_put : UserName → Text → PutEntry
directory_put owner text = record (file_put owner text) { attr = 1 }

-- the entry of it, once it is read
abbrev pub new_directory : UserName → PathName → Checked
new_directory owner path = record {
  entry = record ((new_file owner path).entry) { attr = record { kind = Directory; incomplete = false } };
  sequence = pos 0;
}

-- a file of one block, as its owner hands it to Put
abbrev pub block_put : UserName → Text → Block → PutEntry
block_put owner text block = record (file_put owner text) { blocks = block ∷ [] }

-- the entry of it, once it is read
abbrev pub new_block_file : UserName → PathName → Block → Checked
new_block_file owner path block = record {
  entry = record ((new_file owner path).entry) { blocks = block ∷ [] };
  sequence = pos 0;
}
