-- The byte of an entry's attributes: 0 file, 1 directory, 2 link, and 4 more with the incomplete mark. This project's own.
use Rattle.std.specs.Prelude.{ℕ, true, false, ◌+◌, ◌==◌, if◌then◌else◌, Option, Some, None}
use Rattle.up_entry.specs.declared.entries.Attr.{Attr}
use Rattle.up_entry.specs.declared.entries.Kind.{Kind}
use Rattle.up_entry.specs.declared.entries.Kind.TheVariants.{File, Directory, Link}

-- the byte of a kind
abbrev pub kind_byte : Kind → ℕ
kind_byte File = 0
kind_byte Directory = 1
kind_byte Link = 2

-- the byte of a kind, with 4 more where the incomplete mark is set
abbrev pub attr_byte : Attr → ℕ
attr_byte attr = if attr.incomplete then kind_byte attr.kind + 4 else kind_byte attr.kind

-- the attributes that a byte stands for, where it stands for some
unfoldable pub attr_of : ℕ → Option Attr
attr_of byte =
    if byte == 0 then Some (record { kind = File; incomplete = false })
    else if byte == 1 then Some (record { kind = Directory; incomplete = false })
    else if byte == 2 then Some (record { kind = Link; incomplete = false })
    else if byte == 4 then Some (record { kind = File; incomplete = true })
    else if byte == 5 then Some (record { kind = Directory; incomplete = true })
    else if byte == 6 then Some (record { kind = Link; incomplete = true })
    else None
