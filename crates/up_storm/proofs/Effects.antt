-- What one request of a session did to its files, by the answer over the records before it.
use Rattle.std.proofs.Common.{◌≡◌, ℕ, ◌+◌, ◌<◌, ◌≤◌, Bool, true, false, not, ◌&&◌, List, [], ◌∷◌, ◌++◌, length, take, refl, sym, ap, subst, ◌∙◌, ◌⊎◌, inl, inr, arith, Option, Some, None, is_some}
use Rattle.std.specs.Prelude.{MatchBool, if◌then◌else◌, ◌==◌, decimal, slice_get, Ok}
use Rattle.std.proofs.lemmas.Bool.{cases_lt}
use Rattle.std.proofs.lemmas.List.{length-take, length-take-le}
use Rattle.up_answers.specs.Answers.{added, answer}
use Rattle.up_answers.specs.Fetching.{Fetched}
use Rattle.up_answers.specs.Puts.{holds}
use Rattle.up_commit.specs.Steps.{is_changed}
use Rattle.up_entry.specs.Rules.{is_directory}
use Rattle.up_entry.specs.declared.entries.Kind.{Kind}
use Rattle.up_entry.specs.declared.records.Rec.{Rec}
use Rattle.up_entry.specs.declared.records.Rec.TheVariants.{Delete}
use Rattle.up_list.specs.Globs.{rows}
use Rattle.up_list.specs.Looks.{look_now, shown}
use Rattle.up_log_tree.specs.Logs.{Log}
use Rattle.up_log_tree.specs.Trees.{Tree, kind_of, node_at, tree_of}
use Rattle.up_log_tree.specs.declared.node.Node.{Node}
use Rattle.up_names.specs.PathNames.{path_of}
use Rattle.up_names.specs.Texts.{UserName}
use Rattle.up_plots.proofs.PlotAnswers.{elsewhere, found, listed, missing, not_there, nowhere, put_in, taken_out}
use Rattle.up_plots.proofs.PlotChanges.{delete_adds, file_record, glob_adds, lookup_adds, put_adds}
use Rattle.up_plots.proofs.PlotSizes.{entry_reply_is, has_room, rows_reply_is, slight_at}
use Rattle.up_plots.specs.Answered.{IsAnswered}
use Rattle.up_plots.specs.Plots.{HasPlot, file_path}
use Rattle.up_policy.specs.Loadings.{Loading}
use Rattle.up_storm.proofs.Courses.{Adds, Did, Went}
use Rattle.up_storm.proofs.Grounds.{Ground, IsFileRec, path_at, slight_file, slight_rec, stands_gone, stands_in, stands_put}
use Rattle.up_storm.proofs.PatternReadings.{pattern_read}
use Rattle.up_storm.proofs.Readings.{directory_ordinary, file_name, file_ordinary, file_read, next_other, owner_again, owner_plain, user_read, user_stranger}
use Rattle.up_storm.specs.Asked.{file_text, owner_text, pattern_text, request_of, user_text, wished}
use Rattle.up_storm.specs.Preparing.{storm_limits}
use Rattle.up_storm.specs.Summary.{one_notexist, one_ok}
use Rattle.up_storm.specs.Telling.{counted}
use Rattle.up_storm.specs.declared.generator.Draw.{Draw}
use Rattle.up_storm.specs.declared.generator.Wish.{Wish}
use Rattle.up_storm.specs.declared.generator.Wish.TheVariants as wish
use Rattle.up_storm.specs.declared.tally.Tally.{Tally}
use Rattle.up_wire.specs.declared.replies.Done.TheVariants as done
use Rattle.up_wire.specs.declared.replies.Reply.{Reply}
use Rattle.up_wire.specs.declared.replies.Reply.TheVariants as reply

-- the records that an answer over the first `position` adds are the next one, which is an own one; or there is none
abbrev pub Recorded : List Rec → ℕ → ℕ → List ℕ → List ℕ → List Rec → Type 0
Recorded log position to own after [] = after ≡ own
Recorded log position to own after (rec ∷ []) = (slice_get log position ≡ Some rec) × (position < to) × (after ≡ own ++ (position + 1) ∷ [])
Recorded log position to own after (rec ∷ more ∷ rest) = ⊥

-- the first n records of the tree's log of session k
abbrev pub log_to : List Rec → ℕ → ℕ → Log
log_to log k n = record { owner = owner_text k; limits = storm_limits; records = take n log }

-- A session's request was answered over the first records of its tree's log, and counted.
pub record Answered (log : List Rec) (k : ℕ) (draw : Draw) (from to : ℕ) (own after : List ℕ) (t u : Tally) : Type 0 where
  pub position : ℕ
  pub low : from ≤ position
  pub high : position ≤ to
  pub within : to ≤ length log
  pub loaded : Loading
  pub fetched : Fetched
  pub moment : ℕ
  pub said : Reply
  pub reply : said ≡ answer (log_to log k position) loaded fetched (user_text k) (request_of k draw) moment
  pub recorded : Recorded log position to own after
      (if is_changed said then added (log_to log k position) loaded fetched (user_text k) (request_of k draw) moment else [])
  pub counted : u ≡ counted t said

module _ (log : List Rec) (k : ℕ) (from to : ℕ) (own after : List ℕ) (t u : Tally) where
  -- what came of it, where the answer is known
  module _ (wanted : Wish) (file : ℕ) (a : Answered log k (record { wish = wanted; file = file }) from to own after t u) where
    abbrev Says : Reply → List Rec → Type 0
    Says said records = IsAnswered (log_to log k a.position) a.loaded a.fetched (user_text k) (wished k wanted file) a.moment said records

    said_is : (said : Reply) (records : List Rec) → Says said records → a.said ≡ said
    said_is said records h = a.reply ∙ h.reply

    recorded_is : (said : Reply) (records : List Rec) → Says said records → Recorded log a.position to own after (if is_changed said then records else [])
    recorded_is said records h =
        subst (λ (rs : List Rec). Recorded log a.position to own after (if is_changed said then rs else [])) h.added
        (subst (λ (s : Reply). Recorded log a.position to own after
        (if is_changed s then added (log_to log k a.position) a.loaded a.fetched (user_text k) (wished k wanted file) a.moment else [])) (said_is said records h) a.recorded)

    counted_is : (said : Reply) (records : List Rec) → Says said records → u ≡ counted t said
    counted_is said records h = a.counted ∙ ap (λ (s : Reply). counted t s) (said_is said records h)

  module _ (sessions : ℕ) (in_bounds : k < sessions) (most : sessions ≤ 32) (long : length log ≤ 140000) (file : ℕ) (small : file < 16) where
    less : k < 34
    less = omega (arith, in_bounds, most)

    abbrev stands : ℕ → ℕ → Bool
    stands n i = stands_in log k n i

    module _ (n : ℕ) (ground : Ground k sessions (take n log)) where
      abbrev tree : Tree
      tree = tree_of (take n log)

      plot : HasPlot (owner_text k) tree (decimal k) (user_text k)
      plot = ground.plots k in_bounds refl

      short : length (take n log) ≤ 140000
      short = let some = length-take n log in omega (arith, some, long)

      put_over : (o : Option Node) → node_at tree (path_at k file) ≡ o → holds o (λ (node : Node). is_directory (kind_of node)) ≡ false
      put_over None is = refl
      put_over (Some node) is = ap (λ (kind : Kind). is_directory kind) (ground.files (decimal k) file node is)

    -- ---- request by request

    did_put : (a : Answered log k (record { wish = wish.Put; file = file }) from to own after t u) → Ground k sessions (take a.position log) → Did stands wish.Put file a.position to own after t u
    did_put a ground =
        let p : ℕ = a.position in
        let over = put_over p ground (node_at (tree_of (take p log)) (path_at k file)) refl in
        let room = has_room (log_to log k p) (file_record (user_text k) (path_at k file) (length (take p log))) refl ground.slight (short p ground) (slight_file k file (length (take p log)) less small) in
        let h = put_in (log_to log k p) a.loaded a.fetched (user_text k) a.moment ground.flat (user_stranger k k) (owner_plain k) (decimal k) (file_name file) (file_ordinary k file less small)
        (file_text k file) (file_read k less file small) (plot p ground) (user_read k less) over room in
        let r = recorded_is wish.Put file a (reply.Ok (done.Changed (length (take p log) + 1))) (file_record (user_text k) (path_at k file) (length (take p log)) ∷ []) h in (
          record { own_is = r.2; within = r.1 },
          counted_is wish.Put file a (reply.Ok (done.Changed (length (take p log) + 1))) (file_record (user_text k) (path_at k file) (length (take p log)) ∷ []) h,
          stands_put log p k less file (length (take p log)) small r.0,
        )

    abbrev There : ℕ → Type 0
    There p = Adds p to own after × (u ≡ one_ok t) × ((i : ℕ) → i < 16 → stands (p + 1) i ≡ (not (file == i) && stands p i))

    abbrev Gone : Type 0
    Gone = (after ≡ own) × (u ≡ one_notexist t)

    did_delete : (a : Answered log k (record { wish = wish.Delete; file = file }) from to own after t u) → Ground k sessions (take a.position log) → Did stands wish.Delete file a.position to own after t u
    did_delete a ground = go (node_at (tree_of (take a.position log)) (path_at k file)) refl
      where
        go : (o : Option Node) → node_at (tree_of (take a.position log)) (path_at k file) ≡ o → MatchBool (stands a.position file) (There a.position) Gone
        go (Some node) is =
            let p : ℕ = a.position in
            let room = has_room (log_to log k p) (Delete (path_at k file)) refl ground.slight (short p ground) (slight_rec k file p (Delete (path_at k file)) less small (inr refl)) in
            let h = taken_out (log_to log k p) a.loaded a.fetched (user_text k) a.moment ground.flat (user_stranger k k) (owner_plain k) (decimal k) (file_name file) (file_ordinary k file less small)
            (file_text k file) (file_read k less file small) (plot p ground) node is room in
            let r = recorded_is wish.Delete file a (reply.Ok (done.Changed (length (take p log) + 1))) (Delete (path_at k file) ∷ []) h in
            subst (λ (b : Bool). MatchBool b (There a.position) Gone) (sym (ap is_some is)) (
              record { own_is = r.2; within = r.1 },
              counted_is wish.Delete file a (reply.Ok (done.Changed (length (take p log) + 1))) (Delete (path_at k file) ∷ []) h,
              stands_gone log p k less file small r.0,
            )
        go None is =
            let p : ℕ = a.position in
            let h = not_there (log_to log k p) a.loaded a.fetched (user_text k) a.moment ground.flat (user_stranger k k) (owner_plain k) (decimal k) (file_name file) (file_ordinary k file less small)
            (file_text k file) (file_read k less file small) (plot p ground) is in
            subst (λ (b : Bool). MatchBool b (There a.position) Gone) (sym (ap is_some is)) (
              recorded_is wish.Delete file a reply.NotExist [] h,
              counted_is wish.Delete file a reply.NotExist [] h,
            )

    did_lookup : (a : Answered log k (record { wish = wish.Lookup; file = file }) from to own after t u) → Ground k sessions (take a.position log) → Did stands wish.Lookup file a.position to own after t u
    did_lookup a ground = go (node_at (tree_of (take a.position log)) (path_at k file)) refl
      where
        go : (o : Option Node) → node_at (tree_of (take a.position log)) (path_at k file) ≡ o → (after ≡ own) × (u ≡ (if stands a.position file then one_ok t else one_notexist t))
        go (Some node) is =
            let p : ℕ = a.position in
            let look = look_now (log_to log k p) a.loaded (user_text k) in
            let said : Reply = reply.Ok (done.Entry (shown look node.entry)) in
            let raw = found (log_to log k p) a.loaded a.fetched (user_text k) a.moment ground.flat (user_stranger k k) (owner_plain k) (decimal k) (file_name file) (file_ordinary k file less small)
            (file_text k file) (file_read k less file small) (plot p ground) node is in
            let h : IsAnswered (log_to log k p) a.loaded a.fetched (user_text k) (wished k wish.Lookup file) a.moment said []
            = record { reply = raw.reply ∙ entry_reply_is look node.entry (slight_at (tree_of (take p log)) ground.slight_tree (path_at k file) node is); added = raw.added } in (
              recorded_is wish.Lookup file a said [] h,
              counted_is wish.Lookup file a said [] h ∙ ap (λ (b : Bool). if b then one_ok t else one_notexist t) (sym (ap is_some is)),
            )
        go None is =
            let p : ℕ = a.position in
            let h = missing (log_to log k p) a.loaded a.fetched (user_text k) a.moment ground.flat (user_stranger k k) (owner_plain k) (decimal k) (file_name file) (file_ordinary k file less small)
            (file_text k file) (file_read k less file small) (plot p ground) is in (
              recorded_is wish.Lookup file a reply.NotExist [] h,
              counted_is wish.Lookup file a reply.NotExist [] h ∙ ap (λ (b : Bool). if b then one_ok t else one_notexist t) (sym (ap is_some is)),
            )

    abbrev Hidden : ℕ → Loading → Fetched → ℕ → Type 0
    Hidden p loaded fetched moment = IsAnswered (log_to log k p) loaded fetched (user_text k) (wished k wish.LookElsewhere file) moment reply.Private []

    did_elsewhere : (a : Answered log k (record { wish = wish.LookElsewhere; file = file }) from to own after t u) → Ground k sessions (take a.position log)
        → Did stands wish.LookElsewhere file a.position to own after t u
    did_elsewhere a ground =
        let h : Hidden a.position a.loaded a.fetched a.moment = elim (cases_lt (k + 2) sessions) [
          | inl in_tree ↦ by_plot in_tree
          | inr past ↦ by_none past
        ] in
        (recorded_is wish.LookElsewhere file a reply.Private [] h, counted_is wish.LookElsewhere file a reply.Private [] h)
      where
        next : k + 2 < 34
        next = omega (arith, in_bounds, most)

        reads : path_of (file_text (k + 2) file) ≡ Ok (file_path (owner_text k) (decimal (k + 2)) (file_name file))
        reads = file_read (k + 2) next file small ∙ ap (λ (o : UserName). Ok (file_path o (decimal (k + 2)) (file_name file))) (owner_again k)

        by_plot : k + 2 < sessions → Hidden a.position a.loaded a.fetched a.moment
        by_plot low =
            elsewhere (log_to log k a.position) a.loaded a.fetched (user_text k) a.moment ground.flat (user_stranger k k) (owner_plain k) (decimal (k + 2)) (file_name file) (file_ordinary (k + 2) file next small)
            (file_text (k + 2) file) reads (user_text (k + 2)) (ground.plots (k + 2) low (omega arith)) (next_other k less)

        by_none : sessions ≤ k + 2 → Hidden a.position a.loaded a.fetched a.moment
        by_none high =
            nowhere (log_to log k a.position) a.loaded a.fetched (user_text k) a.moment ground.flat (user_stranger k k) (owner_plain k) (decimal (k + 2)) (file_name file) (file_ordinary (k + 2) file next small)
            (file_text (k + 2) file) reads (ground.bare (k + 2) high next)

    did_glob : (a : Answered log k (record { wish = wish.Glob; file = file }) from to own after t u) → Ground k sessions (take a.position log) → Did stands wish.Glob file a.position to own after t u
    did_glob a ground =
        let p : ℕ = a.position in
        let look = look_now (log_to log k p) a.loaded (user_text k) in
        let pattern = pattern_read k less in
        let said : Reply = reply.Ok (done.Rows (rows look pattern.pattern)) in
        let raw = listed (log_to log k p) a.loaded a.fetched (user_text k) a.moment ground.flat (user_stranger k k) (owner_plain k) (decimal k) (plot p ground)
        (pattern_text k) pattern.pattern pattern.reads pattern.owner pattern.literal pattern.mixed (directory_ordinary k less) in
        let few = ground.few in
        let some = short p ground in
        let h : IsAnswered (log_to log k p) a.loaded a.fetched (user_text k) (wished k wish.Glob file) a.moment said []
        = record { reply = raw.reply ∙ rows_reply_is look pattern.pattern ground.slight_tree (omega (arith, few, some)); added = raw.added } in (
          recorded_is wish.Glob file a said [] h,
          counted_is wish.Glob file a said [] h,
        )

    did_any : (w : Wish) (a : Answered log k (record { wish = w; file = file }) from to own after t u) → Ground k sessions (take a.position log) → Did stands w file a.position to own after t u
    did_any wish.Put a ground = did_put a ground
    did_any wish.Delete a ground = did_delete a ground
    did_any wish.Lookup a ground = did_lookup a ground
    did_any wish.LookElsewhere a ground = did_elsewhere a ground
    did_any wish.Glob a ground = did_glob a ground

    -- what a session's request did
    pub request_went : (w : Wish) (a : Answered log k (record { wish = w; file = file }) from to own after t u) → Ground k sessions (take a.position log) → Went stands (record { wish = w; file = file }) from to own after t u
    request_went w a ground = record { position = a.position; low = a.low; high = a.high; did = did_any w a ground }

-- ---- whatever the tree is, a request adds nothing, or a record of its own file

-- a record that a request added
pub record AddsFile (log : List Rec) (k file position to : ℕ) (own after : List ℕ) : Type 0 where
  pub rec : Rec
  pub there : slice_get log position ≡ Some rec
  pub is : IsFileRec k file position rec
  pub within : position < to
  pub own_is : after ≡ own ++ (position + 1) ∷ []

module _ (log : List Rec) (k : ℕ) (from to : ℕ) (own after : List ℕ) (t u : Tally) (less : k < 32) (file : ℕ) (small : file < 16) where
  here : k < 34
  here = omega (arith, less)

  next : k + 2 < 34
  next = omega (arith, less)

  added_file : (position : ℕ) (changed : Bool) (records : List Rec) (rec : Rec) → IsFileRec k file position rec → (records ≡ []) ⊎ (records ≡ rec ∷ []) → Recorded log position to own after (if changed then records else [])
      → (after ≡ own) ⊎ AddsFile log k file position to own after
  added_file position false records rec is which h = inl h
  added_file position true records rec is (inl none) h = inl (subst (Recorded log position to own after) none h)
  added_file position true records rec is (inr one) h =
      let r = subst (Recorded log position to own after) one h in
      inr (record { rec = rec; there = r.0; is = is; within = r.1; own_is = r.2 })

  none_file : (position : ℕ) (changed : Bool) (records : List Rec) → records ≡ [] → Recorded log position to own after (if changed then records else []) → after ≡ own
  none_file position false records none h = h
  none_file position true records none h = subst (Recorded log position to own after) none h

  pub adds_file : (w : Wish) (a : Answered log k (record { wish = w; file = file }) from to own after t u) → (after ≡ own) ⊎ AddsFile log k file a.position to own after
  adds_file wish.Put a =
      let long : length (take a.position log) ≡ a.position = (let high = a.high in let within = a.within in length-take-le a.position log (omega (arith, high, within))) in
      added_file a.position (is_changed a.said) _ (file_record (user_text k) (path_at k file) (length (take a.position log))) (inl (ap (λ (n : ℕ). file_record (user_text k) (path_at k file) n) long))
      (put_adds (log_to log k a.position) a.loaded a.fetched (user_text k) a.moment (decimal k) (file_name file) (file_text k file) (file_ordinary k file here small) (file_read k here file small) (user_read k here)) a.recorded
  adds_file wish.Delete a =
      added_file a.position (is_changed a.said) _ (Delete (path_at k file)) (inr refl)
      (delete_adds (log_to log k a.position) a.loaded a.fetched (user_text k) a.moment (decimal k) (file_name file) (file_text k file) (file_ordinary k file here small) (file_read k here file small)) a.recorded
  adds_file wish.Lookup a =
      inl (none_file a.position (is_changed a.said) _ (lookup_adds (log_to log k a.position) a.loaded a.fetched (user_text k) a.moment (decimal k) (file_name file) (file_text k file)
      (file_ordinary k file here small) (file_read k here file small)) a.recorded)
  adds_file wish.LookElsewhere a =
      inl (none_file a.position (is_changed a.said) _ (lookup_adds (log_to log k a.position) a.loaded a.fetched (user_text k) a.moment (decimal (k + 2)) (file_name file) (file_text (k + 2) file)
      (file_ordinary (k + 2) file next small)
      (file_read (k + 2) next file small ∙ ap (λ (o : UserName). Ok (file_path o (decimal (k + 2)) (file_name file))) (owner_again k))) a.recorded)
  adds_file wish.Glob a =
      let pattern = pattern_read k here in
      inl (none_file a.position (is_changed a.said) _ (glob_adds (log_to log k a.position) a.loaded a.fetched (user_text k) a.moment (pattern_text k) pattern.pattern pattern.reads pattern.owner) a.recorded)
