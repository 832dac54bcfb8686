-- What each request that prepares a storm makes of the logs: an owner's root, a session's directory, and its Access file.
use Rattle.std.proofs.Common.{◌≡◌, ◌≢◌, ℕ, ◌+◌, ◌%◌, ◌<◌, ◌≤◌, true, false, List, [], ◌∷◌, ◌++◌, length, map, take, refl, sym, ap, subst, ◌∙◌, ◌⊎◌, inl, inr, arith}
use Rattle.std.specs.Prelude.{codes, decimal, Ok, Err}
use Rattle.std.proofs.lemmas.Bool.{false≢true}
use Rattle.std.proofs.lemmas.List.{take_all}
use Rattle.sha2.proofs.Facts256.{length-sha256}
use Rattle.sha2.specs.Sha256.{sha256}
use Rattle.up_answers.specs.Fetching.{Fetched, text_put}
use Rattle.up_blocks.specs.Records.{holds}
use Rattle.up_blocks.specs.declared.record.BlockRecord.{BlockRecord}
use Rattle.up_calls.specs.Blocks.{GivenBy, Got, IsFromStore, OwnBlocks}
use Rattle.up_calls.specs.Routes.{Question}
use Rattle.up_calls.specs.Services.{IsBlock}
use Rattle.up_calls.specs.Views.{Views}
use Rattle.up_calls.specs.declared.event.Event.{Event}
use Rattle.up_entry.specs.declared.entries.Location.{Location}
use Rattle.up_entry.specs.declared.fetch.Fetch.{Fetch}
use Rattle.up_entry.specs.declared.fetch.Fetch.TheVariants as fetch
use Rattle.up_entry.specs.declared.records.Rec.{Rec}
use Rattle.up_log_tree.specs.Fits.{HasDirectory}
use Rattle.up_log_tree.specs.Fits as fits
use Rattle.up_log_tree.specs.Logs.{Log}
use Rattle.up_log_tree.specs.Trees.{tree_of}
use Rattle.up_names.specs.PathNames.{PathName}
use Rattle.up_names.specs.Texts.{Text, UserName}
use Rattle.up_peer.specs.declared.loader.Loader.{Ghosts}
use Rattle.up_plots.proofs.PlotChecking.{block_asked, directory_asked}
use Rattle.up_plots.proofs.PlotPuts.{access_made, access_refused, block_record, directory_made, directory_record, root_put, slight_block, slight_directory, text_failed, text_kept}
use Rattle.up_plots.proofs.PlotSizes.{IsSlightRec, has_room}
use Rattle.up_plots.specs.Answered.{IsAnswered}
use Rattle.up_plots.specs.Asks.{block_put, directory_put, new_block_file, new_directory}
use Rattle.up_plots.specs.Plots.{all_to, file_path, plot_path}
use Rattle.up_storm.proofs.AccessDigests.{AreApart}
use Rattle.up_storm.proofs.KeptBlocks.{AreAccessBlocks, bytes_are}
use Rattle.up_storm.proofs.Placings.{Placed, access_placed, plot_placed, plot_there, root_placed}
use Rattle.up_storm.proofs.PreparedCalls.{GoesTo, Made, TreeCall, goes_put, tree_call, tree_grows, tree_said}
use Rattle.up_storm.proofs.PreparedReadings.{access_control, access_path_read, access_short, owner_length, plot_short, root_read, root_short, text_fits, text_short, text_small}
use Rattle.up_storm.proofs.Readings.{access_read, directory_ordinary, directory_read, owner_plain, owner_read}
use Rattle.up_storm.proofs.PreparedStages.{TreeNew, TreeStage}
use Rattle.up_storm.specs.Asked.{access_text, directory_text, owner_text, user_text}
use Rattle.up_storm.specs.Preparing.{access_of, directory_of, root_of, storm_limits, whole_block}
use Rattle.up_storm.specs.Sessions.{is_fault}
use Rattle.up_wire.specs.declared.replies.Done.TheVariants as done
use Rattle.up_wire.specs.declared.replies.Reply.{Reply}
use Rattle.up_wire.specs.declared.replies.Reply.TheVariants as reply

-- ---- the records are slight

-- an owner's name is short
owner_brief : (c : ℕ) → length (owner_text c) ≤ 32
owner_brief c = let long = owner_length c in omega (arith, long)

-- ---- the roots

module _ {L : Type 0} (loader : Ghosts L) (operator : UserName) (a b : Views) (old new : L) (e : Event) (c : ℕ)
    (made : Made loader operator a b old new (record { user = owner_text c; request = (root_of (owner_text c)).what }) e) (before : TreeNew a c) where
  -- the owner puts the root
  abbrev root_question : Question
  root_question = record { user = owner_text c; request = (root_of (owner_text c)).what }

  -- at this path
  abbrev root_path : PathName
  root_path = fits.root_of (owner_text c)

  -- it goes to the owner's tree
  root_goes : GoesTo (owner_text c) [] root_question
  root_goes =
      goes_put (owner_text c) (owner_text c) (directory_put (owner_text c) (owner_text c ++ codes "/")) (new_directory (owner_text c) root_path)
      (directory_asked (owner_text c) (owner_text c ++ codes "/") root_path (root_read c) (owner_read c) refl) refl (owner_plain c)

  -- and is answered there
  pub root_call : TreeCall a b (owner_text c) [] root_question e before.v
  root_call = tree_call loader operator a b old new (owner_text c) [] root_question e root_goes made before.v before.there

  -- its record is slight
  root_slight : IsSlightRec (directory_record (owner_text c) root_path 0)
  root_slight = slight_directory (owner_text c) root_path 0 (root_short c) (owner_brief c)

  -- and is all that came to the log
  root_grows : root_call.w.seen ≡ directory_record (owner_text c) root_path 0 ∷ []
  root_grows =
      let empty : Log = record { owner = owner_text c; limits = storm_limits; records = [] } in
      let room = has_room empty (directory_record (owner_text c) root_path 0) refl tt (omega arith) root_slight in
      let answered = root_put (owner_text c) storm_limits e.loaded e.fetched e.moment (owner_plain c) (owner_read c) (owner_text c ++ codes "/") (root_read c) room in
      tree_grows a b (owner_text c) [] root_question e before.v root_call storm_limits before.fixed 1 (directory_record (owner_text c) root_path 0)
      (subst (λ (rs : List Rec). IsAnswered (record { owner = owner_text c; limits = storm_limits; records = rs }) e.loaded e.fetched (owner_text c) (root_of (owner_text c)).what e.moment (reply.Ok (done.Changed 1))
      (directory_record (owner_text c) root_path 0 ∷ [])) (sym before.empty) answered)
      ∙ ap (λ (rs : List Rec). rs ++ directory_record (owner_text c) root_path 0 ∷ []) before.empty

  -- an owner's root is put
  pub root_stage : TreeStage b c 0 0 1
  root_stage = record {
    v = root_call.w;
    there = root_call.after;
    fixed = root_call.fixed ∙ before.fixed;
    placed = subst (λ (rs : List Rec). Placed (owner_text c) (c % 2) 0 0 1 rs) (sym root_grows) (root_placed (owner_text c) (c % 2) root_slight);
  }

-- ---- a session's directory

module _ {L : Type 0} (loader : Ghosts L) (operator : UserName) (a b : Views) (old new : L) (e : Event) (k size : ℕ) (low : k < 32)
    (made : Made loader operator a b old new (record { user = owner_text k; request = (directory_of k).what }) e) (before : TreeStage a k k k size) where
  -- the owner puts the directory
  abbrev plot_question : Question
  plot_question = record { user = owner_text k; request = (directory_of k).what }

  -- at this path
  abbrev plot : PathName
  plot = plot_path (owner_text k) (decimal k)

  -- the number is one of those that are read
  small : k < 34
  small = omega (arith, low)

  -- it goes to the owner's tree
  plot_goes : GoesTo (owner_text k) [] plot_question
  plot_goes =
      goes_put (owner_text k) (owner_text k) (directory_put (owner_text k) (directory_text k)) (new_directory (owner_text k) plot)
      (directory_asked (owner_text k) (directory_text k) plot (directory_read k small) (owner_read k) (directory_ordinary k small)) refl (owner_plain k)

  -- and is answered there
  pub plot_call : TreeCall a b (owner_text k) [] plot_question e before.v
  plot_call = tree_call loader operator a b old new (owner_text k) [] plot_question e plot_goes made before.v before.there

  -- its record is slight
  plot_slight : IsSlightRec (directory_record (owner_text k) plot (length before.v.seen))
  plot_slight = slight_directory (owner_text k) plot (length before.v.seen) (plot_short k small) (owner_brief k)

  -- and is all that came to the log
  plot_grows : plot_call.w.seen ≡ before.v.seen ++ directory_record (owner_text k) plot (length before.v.seen) ∷ []
  plot_grows =
      let log : Log = record { owner = owner_text k; limits = storm_limits; records = before.v.seen } in
      let p = before.placed in
      let few = p.few in
      let short : length before.v.seen ≤ 140000 = omega (arith, few, low) in
      let room = has_room log (directory_record (owner_text k) plot (length before.v.seen)) refl p.slight short plot_slight in
      tree_grows a b (owner_text k) [] plot_question e before.v plot_call storm_limits before.fixed (length before.v.seen + 1) (directory_record (owner_text k) plot (length before.v.seen))
      (directory_made (owner_text k) storm_limits e.loaded e.fetched e.moment (owner_plain k) (owner_read k) before.v.seen p.stands.flat (decimal k) (directory_text k)
      (directory_read k small) (directory_ordinary k small) (p.stands.free k (omega arith) small) (p.stands.bare k (omega arith) small) room)

  -- it is put
  pub plot_stage : TreeStage b k k (k + 1) (size + 1)
  plot_stage = record {
    v = plot_call.w;
    there = plot_call.after;
    fixed = plot_call.fixed ∙ before.fixed;
    placed = subst (λ (rs : List Rec). Placed (owner_text k) (k % 2) k (k + 1) (size + 1) rs) (sym plot_grows) (plot_placed (owner_text k) (k % 2) k small before.v.seen size before.placed plot_slight);
  }

  -- and stands then
  pub plot_stands_there : HasDirectory (tree_of plot_stage.v.seen) plot
  unfolding plot_stage
  plot_stands_there = subst (λ (rs : List Rec). HasDirectory (tree_of rs) plot) (sym plot_grows) (plot_there (owner_text k) (k % 2) k small before.v.seen)

-- ---- and its Access file

-- what was fetched for one location
one_fetched : (fetched : Fetched) (location : Location) → map (λ (got : Got). got.0) fetched ≡ location ∷ [] → (given : Fetch) × (fetched ≡ (location, given) ∷ [])
one_fetched [] location h = absurd (cc)
one_fetched (got ∷ []) location h = let both : got.0 ∷ [] ≡ location ∷ [] = h in let first : got.0 ≡ location = cc in (got.1, ap (λ (l : Location). (l, got.1) ∷ []) first)
one_fetched (got ∷ (other ∷ more)) location h = absurd (cc)

module _ {L : Type 0} (loader : Ghosts L) (operator : UserName) (a b : Views) (old new : L) (e : Event) (k size : ℕ) (low : k < 32)
    (made : Made loader operator a b old new (record { user = owner_text k; request = (access_of k).what }) e) (before : TreeStage a k k (k + 1) size)
    (directory : HasDirectory (tree_of before.v.seen) (plot_path (owner_text k) (decimal k)))
    (sessions : ℕ) (inside : k < sessions) (apart : AreApart sessions) (blocks : AreAccessBlocks sessions a.store.seen) (held : holds a.store.seen (sha256 (access_text k)) ≡ true) where
  -- the owner puts the Access file
  abbrev access_question : Question
  access_question = record { user = owner_text k; request = (access_of k).what }

  -- at this path
  abbrev here : PathName
  here = file_path (owner_text k) (decimal k) (codes "Access")

  -- whose text this is
  abbrev path : Text
  path = directory_text k ++ codes "/Access"

  -- the number is one of those that are read
  below : k < 34
  below = omega (arith, low)

  -- it goes to the owner's tree, and its block has to be fetched
  access_goes : GoesTo (owner_text k) ((whole_block (access_text k)).location ∷ []) access_question
  access_goes =
      goes_put (owner_text k) (owner_text k) (block_put (owner_text k) path (whole_block (access_text k))) (new_block_file (owner_text k) here (whole_block (access_text k)))
      (block_asked (owner_text k) path here (access_path_read k below) (owner_read k) (whole_block (access_text k)) (access_control (owner_text k) (decimal k)) (text_fits k low)
      (text_small k low (owner_text k) (decimal k)) (let two : length here.elements ≡ 2 = refl in omega (arith, two))) refl (owner_plain k)

  -- it is answered there
  pub access_call : TreeCall a b (owner_text k) ((whole_block (access_text k)).location ∷ []) access_question e before.v
  access_call = tree_call loader operator a b old new (owner_text k) ((whole_block (access_text k)).location ∷ []) access_question e access_goes made before.v before.there

  -- one block was fetched for it
  fetched_one : (given : Fetch) × (e.fetched ≡ ((whole_block (access_text k)).location, given) ∷ [])
  fetched_one = one_fetched e.fetched (whole_block (access_text k)).location access_call.located

  -- its record is slight
  access_slight : IsSlightRec (block_record (owner_text k) here (whole_block (access_text k)) (access_text k) (length before.v.seen))
  access_slight =
      slight_block (owner_text k) here (sha256 (access_text k)) (length (access_text k)) (access_text k) (length before.v.seen) (access_short k below) (owner_brief k) (text_short k low)
      (length-sha256 (access_text k))

  -- the log before it
  abbrev log_before : Log
  log_before = record { owner = owner_text k; limits = storm_limits; records = before.v.seen }

  -- where its text was fetched, its record is added
  access_grows : text_put (owner_text k) e.fetched (new_block_file (owner_text k) here (whole_block (access_text k))).entry ≡ Ok (access_text k)
      → access_call.w.seen ≡ before.v.seen ++ block_record (owner_text k) here (whole_block (access_text k)) (access_text k) (length before.v.seen) ∷ []
  access_grows kept =
      let p = before.placed in
      let few = p.few in
      let short : length before.v.seen ≤ 140000 = omega (arith, few, low) in
      let room = has_room log_before (block_record (owner_text k) here (whole_block (access_text k)) (access_text k) (length before.v.seen)) refl p.slight short access_slight in
      tree_grows a b (owner_text k) ((whole_block (access_text k)).location ∷ []) access_question e before.v access_call storm_limits before.fixed (length before.v.seen + 1)
      (block_record (owner_text k) here (whole_block (access_text k)) (access_text k) (length before.v.seen))
      (access_made (owner_text k) storm_limits e.loaded e.fetched e.moment (owner_plain k) (owner_read k) before.v.seen p.stands.flat (decimal k) path (whole_block (access_text k))
      (access_path_read k below) (access_control (owner_text k) (decimal k)) (text_fits k low) (text_small k low (owner_text k) (decimal k)) directory (p.stands.bare k (omega arith) below)
      (access_text k) kept room)

  -- where it was not, a disk had failed
  access_fails : text_put (owner_text k) e.fetched (new_block_file (owner_text k) here (whole_block (access_text k))).entry ≡ Err reply.Io → ⊥
  access_fails failed =
      let p = before.placed in
      let said = tree_said a b (owner_text k) ((whole_block (access_text k)).location ∷ []) access_question e before.v access_call storm_limits before.fixed reply.Io []
      (access_refused (owner_text k) storm_limits e.loaded e.fetched e.moment (owner_plain k) (owner_read k) before.v.seen p.stands.flat (decimal k) path (whole_block (access_text k))
      (access_path_read k below) (access_control (owner_text k) (decimal k)) (text_fits k low) (text_small k low (owner_text k) (decimal k)) directory (p.stands.bare k (omega arith) below) reply.Io failed) in
      false≢true (sym made.sound ∙ ap (λ (r : Reply). is_fault r) said)

  -- its text is kept
  abbrev Kept : Fetched → Type 0
  Kept fetched = text_put (owner_text k) fetched (new_block_file (owner_text k) here (whole_block (access_text k))).entry ≡ Ok (access_text k)

  -- its text could not be read
  abbrev Lost : Fetched → Type 0
  Lost fetched = text_put (owner_text k) fetched (new_block_file (owner_text k) here (whole_block (access_text k))).entry ≡ Err reply.Io

  -- what the store gave
  given_cases : (given : Fetch) → IsFromStore a.store b.store (sha256 (access_text k)) given → Kept (((whole_block (access_text k)).location, given) ∷ []) ⊎ Lost (((whole_block (access_text k)).location, given) ∷ [])
  given_cases given (inr failed) =
      inr (subst (λ (f : Fetch). Lost (((whole_block (access_text k)).location, f) ∷ [])) (sym failed.0)
      (text_failed (owner_text k) here (access_control (owner_text k) (decimal k)) (whole_block (access_text k))))
  given_cases given (inl given_is) = inl (by given (given_is.by))
    where
      front : take given_is.position b.store.seen ≡ a.store.seen
      front =
          let same = access_call.store in
          let long : length b.store.seen ≡ length a.store.seen = ap (λ (log : List BlockRecord). length log) same in
          let from = given_is.from in
          take_all given_is.position b.store.seen (omega (arith, from, long)) ∙ same

      by : (f : Fetch) → GivenBy (take given_is.position b.store.seen) (sha256 (access_text k)) f → Kept (((whole_block (access_text k)).location, f) ∷ [])
      by (fetch.Got bytes) block =
          let text : bytes ≡ access_text k = bytes_are sessions apart a.store.seen blocks k inside bytes held (subst (λ (log : List BlockRecord). IsBlock log (sha256 (access_text k)) bytes) front block) in
          subst (λ (t : Text). Kept (((whole_block (access_text k)).location, fetch.Got t) ∷ [])) (sym text)
          (text_kept (owner_text k) here (access_control (owner_text k) (decimal k)) (whole_block (access_text k)) (access_text k) (all_to (user_text k)) refl refl (access_read k low))
      by fetch.Missing none = absurd (false≢true (sym (subst (λ (log : List BlockRecord). holds log (sha256 (access_text k)) ≡ false) front none) ∙ held))
      by fetch.Failed none = absurd none

  -- its text is kept, since no disk failed
  kept : Kept e.fetched
  kept =
      let owned : IsFromStore a.store b.store (sha256 (access_text k)) fetched_one.0 = (subst (λ (f : Fetched). OwnBlocks a.store b.store f) fetched_one.1 access_call.blocks).0 in
      elim (given_cases fetched_one.0 owned) [
        | inl good ↦ subst Kept (sym fetched_one.1) good
        | inr lost ↦ absurd (access_fails (subst Lost (sym fetched_one.1) lost))
      ]

  -- it is put
  pub access_stage : TreeStage b k (k + 1) (k + 1) (size + 1)
  access_stage = record {
    v = access_call.w;
    there = access_call.after;
    fixed = access_call.fixed ∙ before.fixed;
    placed = subst (λ (rs : List Rec). Placed (owner_text k) (k % 2) (k + 1) (k + 1) (size + 1) rs) (sym (access_grows kept))
        (access_placed (owner_text k) (k % 2) k below before.v.seen size (whole_block (access_text k)) (access_text k) before.placed directory (access_read k low) access_slight);
  }
