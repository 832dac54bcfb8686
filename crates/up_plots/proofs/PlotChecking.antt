-- How a directory, and an Access file of one block, that an owner puts are read.
use Rattle.std.proofs.Common.{◌≡◌, ◌<◌, Bool, true, not, [], ◌∷◌, length, refl, ap, ◌∙◌, Option, None, bytes_eq}
use Rattle.std.specs.Prelude.{if◌then◌else◌, ◌==◌, nat_lt, ⊤, Result}
use Rattle.std.proofs.lemmas.Bool.{lt-ltb}
use Rattle.std.specs.Prelude as std
use Rattle.std.proofs.lemmas.Slice.Eq.{bytes_eq-Decides}
use Rattle.up_entry.specs.Attrs.{attr_of}
use Rattle.up_entry.specs.Checking.{◌>>=◌, checked_as, checked_of, content_rules, kind_of, link_or, path_or, rule, signed_name_of, user_or, writer_of}
use Rattle.up_entry.specs.ControlFiles.{is_ordinary}
use Rattle.up_entry.specs.Rules.{blocks_fit, control_fits, control_size_fits}
use Rattle.up_entry.specs.declared.entries.Block.{Block}
use Rattle.up_entry.specs.declared.entries.Kind.{Kind}
use Rattle.up_entry.specs.declared.entries.Kind.TheVariants.{Directory, File}
use Rattle.up_entry.specs.declared.fault.EntryFault.{EntryFault}
use Rattle.up_entry.specs.declared.puts.Checked.{Checked}
use Rattle.up_entry.specs.declared.puts.PutEntry.{PutEntry}
use Rattle.up_entry.specs.declared.what.What.TheVariants as what
use Rattle.up_list.specs.Asking.{asked_of}
use Rattle.up_list.specs.declared.asking.ReadRequest.TheVariants as asks
use Rattle.up_log_tree.proofs.Paths.{path_eq_itself}
use Rattle.up_names.specs.PathNames.{PathName, control_of, path_of}
use Rattle.up_names.specs.PathOrder.{path_eq}
use Rattle.up_names.specs.Texts.{Text, UserName}
use Rattle.up_names.specs.UserNames.{user_of}
use Rattle.up_names.specs.declared.paths.Control.{Control}
use Rattle.up_names.specs.declared.paths.Control.TheVariants as control
use Rattle.up_plots.proofs.PlotAnswers.{read_as, user_as}
use Rattle.up_plots.specs.Asks.{block_put, directory_put, new_block_file, new_directory}
use Rattle.up_wire.specs.declared.requests.Request.TheVariants as request

module _ (user : UserName) (text : Text) (here : PathName) (reads : path_of text ≡ std.Ok here) (named : user_of user ≡ std.Ok user) where
  -- the names of any entry that is put so
  module _ (put : PutEntry) (of_text : put.signed_name ≡ text) (of_user : put.writer ≡ user) where
    -- its signed name is its path
    signed_as : signed_name_of put here ≡ std.Ok here
    unfolding signed_name_of
    signed_as =
        ap (λ (t : Text). path_or what.SignedName t >>= λ s. rule what.SignedName (path_eq s here) >>= λ same. std.Ok s) of_text
        ∙ ap (λ (r : Result PathName EntryFault). r >>= λ s. rule what.SignedName (path_eq s here) >>= λ same. std.Ok s) (read_as what.SignedName text here reads)
        ∙ ap (λ (b : Bool). rule what.SignedName b >>= λ same. std.Ok here) (path_eq_itself here)

    -- its writer is the user
    written_as : writer_of put user ≡ std.Ok user
    unfolding writer_of
    written_as =
        ap (λ (t : Text). user_or what.Writer t >>= λ w. rule what.Writer (bytes_eq w user) >>= λ own. std.Ok w) of_user
        ∙ ap (λ (r : Result UserName EntryFault). r >>= λ w. rule what.Writer (bytes_eq w user) >>= λ own. std.Ok w) (user_as what.Writer user user named)
        ∙ ap (λ (b : Bool). rule what.Writer b >>= λ own. std.Ok user) ((bytes_eq-Decides user user).1 refl)

    -- and what is left of its rules
    checked_by : (kind : Kind) → put.name ≡ text → kind_of put here ≡ std.Ok kind → link_or kind put.link ≡ std.Ok None → content_rules put kind here ≡ std.Ok tt
        → checked_as put user ≡ std.Ok (checked_of put here here user kind None)
    unfolding checked_as
    checked_by kind at kinded linked content =
        ap (λ (t : Text). path_or what.Name t >>= λ n. signed_name_of put n >>= λ s. writer_of put user >>= λ w. kind_of put n >>= λ k.
        link_or k put.link >>= λ l. content_rules put k n >>= λ c. std.Ok (checked_of put n s w k l)) at
        ∙ ap (λ (r : Result PathName EntryFault). r >>= λ n. signed_name_of put n >>= λ s. writer_of put user >>= λ w. kind_of put n >>= λ k.
        link_or k put.link >>= λ l. content_rules put k n >>= λ c. std.Ok (checked_of put n s w k l)) (read_as what.Name text here reads)
        ∙ ap (λ (r : Result PathName EntryFault). r >>= λ s. writer_of put user >>= λ w. kind_of put here >>= λ k.
        link_or k put.link >>= λ l. content_rules put k here >>= λ c. std.Ok (checked_of put here s w k l)) signed_as
        ∙ ap (λ (r : Result UserName EntryFault). r >>= λ w. kind_of put here >>= λ k. link_or k put.link >>= λ l. content_rules put k here >>= λ c. std.Ok (checked_of put here here w k l)) written_as
        ∙ ap (λ (r : Result Kind EntryFault). r >>= λ k. link_or k put.link >>= λ l. content_rules put k here >>= λ c. std.Ok (checked_of put here here user k l)) kinded
        ∙ ap (λ (r : Result (Option PathName) EntryFault). r >>= λ l. content_rules put kind here >>= λ c. std.Ok (checked_of put here here user kind l)) linked
        ∙ ap (λ (r : Result ⊤ EntryFault). r >>= λ c. std.Ok (checked_of put here here user kind None)) content

  -- a directory at an ordinary path
  module _ (ordinary : control_of here ≡ control.Ordinary) where
    -- it is a directory
    directory_kind : kind_of (directory_put user text) here ≡ std.Ok Directory
    unfolding kind_of attr_of
    directory_kind = refl

    -- the rule of what may stand at a control path, by which its path is
    abbrev stands_at : Control → Result ⊤ EntryFault
    stands_at c = rule what.Control (control_fits Directory c) >>= λ fits. std.Ok tt

    -- its content breaks no rule
    directory_content : content_rules (directory_put user text) Directory here ≡ std.Ok tt
    unfolding content_rules
    directory_content = ap stands_at ordinary

    -- so its Put asks for that directory
    pub directory_asked : asked_of user (request.Put (directory_put user text)) ≡ std.Ok (asks.Put (new_directory user here))
    unfolding asked_of
    directory_asked =
        ap (λ (r : Result Checked EntryFault). r >>= λ checked. std.Ok (asks.Put checked))
        (checked_by (directory_put user text) refl refl Directory refl directory_kind refl directory_content)

  -- an Access file of one block
  module _ (block : Block) (access : control_of here ≡ control.Access) (blocks : blocks_fit File (block ∷ []) ≡ true)
      (size : control_size_fits File here (block ∷ []) ≡ true) (below : 0 < length here.elements) where
    -- the kind that its packing allows, by which control file its path is of
    abbrev packs_as : Control → Result Kind EntryFault
    packs_as c = rule what.Packing (if not (is_ordinary c) then 1 == 1 else not (1 == 0)) >>= λ packed. std.Ok File

    -- it is a file
    block_kind : kind_of (block_put user text block) here ≡ std.Ok File
    unfolding kind_of attr_of
    block_kind = ap packs_as access

    -- its content, by what its blocks, its place and its size are
    abbrev content_by : Bool → Bool → Bool → Result ⊤ EntryFault
    content_by fit placed small = rule what.Blocks fit >>= λ a. rule what.Root placed >>= λ b. rule what.ControlSize small >>= λ c. std.Ok tt

    -- its content breaks no rule
    block_content : content_rules (block_put user text block) File here ≡ std.Ok tt
    unfolding content_rules
    block_content =
        ap (λ (b : Bool). content_by b (nat_lt 0 (length here.elements)) (control_size_fits File here (block ∷ []))) blocks
        ∙ ap (λ (b : Bool). content_by true b (control_size_fits File here (block ∷ []))) (lt-ltb 0 (length here.elements) below)
        ∙ ap (λ (b : Bool). content_by true true b) size

    -- so its Put asks for that file
    pub block_asked : asked_of user (request.Put (block_put user text block)) ≡ std.Ok (asks.Put (new_block_file user here block))
    unfolding asked_of
    block_asked =
        ap (λ (r : Result Checked EntryFault). r >>= λ checked. std.Ok (asks.Put checked))
        (checked_by (block_put user text block) refl refl File refl block_kind refl block_content)
