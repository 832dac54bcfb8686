-- The bytes of blocks, joined.
use Rattle.std.proofs.Common.{◌≡◌, ℕ, Bool, true, false, not, List, [], ◌++◌, refl, ap, sym, ◌∙◌, Result, Ok, Err}
use Rattle.std.specs.Prelude.{if◌then◌else◌}
use Rattle.std.specs.List.{list_any}
use Rattle.std.proofs.lemmas.List.{append_assoc}
use Rattle.up_names.specs.PathNames.{control_of}
use Rattle.up_entry.specs.ControlFiles.{is_control_file}
use Rattle.up_entry.specs.declared.entries.Entry.{Entry}
use Rattle.up_wire.specs.declared.replies.Reply.{Reply}
use Rattle.up_wire.specs.declared.replies.Reply.TheVariants as reply
use Rattle.up_list.specs.Changes.{◌>>=◌}
use Rattle.up_answers.specs.Fetching.{Fetched, fetch_for, is_failed, joined_bytes, parsed_as, text_put}
use Rattle.up_edits.specs.Texts.{behind, bytes_of_all}

-- ---- the text of a control file

module _ (owner : List ℕ) (fetched : Fetched) (entry : Entry) (control : is_control_file entry.attr.kind entry.name ≡ true) where
  put_is : text_put owner fetched entry ≡ (bytes_of_all fetched entry.blocks >>= parsed_as owner (control_of entry.name))
  unfolding text_put bytes_of_all
  put_is =
      ap (λ b. if not b then Ok [] else if list_any (λ block. is_failed (fetch_for fetched block)) entry.blocks then Err reply.Io else (joined_bytes fetched entry.blocks >>= parsed_as owner (control_of entry.name))) control
      ∙ go (list_any (λ block. is_failed (fetch_for fetched block)) entry.blocks)
    where
      go : (b : Bool) → (if b then Err reply.Io else (joined_bytes fetched entry.blocks >>= parsed_as owner (control_of entry.name))) ≡ ((if b then Err reply.Io else joined_bytes fetched entry.blocks) >>= parsed_as owner (control_of entry.name))
      go true = refl
      go false = refl

  -- where its bytes are there, they are parsed
  pub put_is_parsed : (text : List ℕ) (parsed : Result (List ℕ) Reply) → Ok text ≡ bytes_of_all fetched entry.blocks → parsed ≡ parsed_as owner (control_of entry.name) text → parsed ≡ text_put owner fetched entry
  put_is_parsed text parsed joined is = is ∙ (ap (λ r. r >>= parsed_as owner (control_of entry.name)) joined ∙ sym put_is)

  -- where they are not, that is the refusal
  pub put_is_refused : (refusal : Reply) → Err refusal ≡ bytes_of_all fetched entry.blocks → Err refusal ≡ text_put owner fetched entry
  put_is_refused refusal joined = ap (λ r. r >>= parsed_as owner (control_of entry.name)) joined ∙ sym put_is
