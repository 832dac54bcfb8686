-- How many bytes records, entries and rows have, where texts are short.
use Rattle.std.proofs.Common.{◌≡◌, ℕ, suc, ◌+◌, ◌*◌, ◌-◌, ◌<◌, ◌≤◌, Bool, true, false, not, cond, ◌&&◌, ◌||◌, List, [], ◌∷◌, ◌++◌, length, sym, ap, subst, ◌∙◌, arith, length-append, Option, Some, None}
use Rattle.std.specs.Prelude.{nat_le, nat_lt, ⊤, ◌==◌, if◌then◌else◌}
use Rattle.std.specs.FinMap.Entries as entries
use Rattle.std.specs.FinMap.Entries.{by_order}
use Rattle.std.specs.List.{AllByRecursion, cons_option, filter, flat_map, sum_by}
use Rattle.std.specs.Map.{values_of}
use Rattle.std.specs.Option.{option_map}
use Rattle.std.specs.Ordering.{eq_by_cmp}
use Rattle.std.specs.declared.cmp.Ordering.{Ordering}
use Rattle.std.specs.declared.cmp.Ordering.TheVariants.{Equal, Greater, Less}
use Rattle.std.proofs.lemmas.Bool.{le-ltb}
use Rattle.std.proofs.lemmas.Bool.Decides.{nat_tests}
use Rattle.std.proofs.lemmas.List.Sums.{sum_by-cons}
use Rattle.up_bytes.proofs.Numbers.{length-num}
use Rattle.up_bytes.specs.Num.{num}
use Rattle.up_bytes.specs.Spelling.{byte, int, text, zigzag}
use Rattle.up_entry.specs.Attrs.{attr_byte}
use Rattle.up_entry.specs.Showing.{shown_as}
use Rattle.up_entry.specs.Spelling as spelling
use Rattle.up_entry.specs.Spelling.{link_text}
use Rattle.up_entry.specs.declared.entries.Entry.{Entry}
use Rattle.up_entry.specs.declared.records.Rec.{Rec}
use Rattle.up_entry.specs.declared.records.Rec.TheVariants.{Delete, Put, Snap}
use Rattle.up_list.specs.Globs.{is_met, row_of, rows}
use Rattle.up_list.specs.Looks.{Look, rights, shown}
use Rattle.up_journal.specs.declared.limits.Limits.{Limits}
use Rattle.up_log_tree.specs.Logs.{Log, bytes_of}
use Rattle.up_log_tree.specs.Sizes.{size_of}
use Rattle.up_log_tree.proofs.Paths.{some_none, some_same}
use Rattle.up_log_tree.specs.Trees.{Tree, after_record, is_link, kind_of, made_of, node_at}
use Rattle.up_log_tree.specs.declared.node.Node.{Node}
use Rattle.up_names.specs.PathNames.{PathName, canonical}
use Rattle.up_names.specs.PathOrder.{path_cmp, path_eq}
use Rattle.up_pattern.specs.Patterns.{PatternName}
use Rattle.up_plots.specs.Answered.{HasRoom}
use Rattle.up_wire.specs.Bounds.{bounded, reply_size}
use Rattle.up_wire.specs.Spelling as wire
use Rattle.up_wire.specs.declared.messages.ServerFrame.TheVariants.{Answer}
use Rattle.up_wire.specs.declared.replies.Done.{Done}
use Rattle.up_wire.specs.declared.replies.Done.TheVariants as done
use Rattle.up_wire.specs.declared.replies.Reply.TheVariants as reply
use Rattle.up_wire.specs.declared.replies.Row.{Row}

-- ---- fields

-- two texts of at most so many bytes have at most so many together
pub two : (xs ys : List ℕ) (a b : ℕ) → length xs ≤ a → length ys ≤ b → length (xs ++ ys) ≤ a + b
two xs ys a b h k = let sum = length-append xs ys in omega (arith, sum, h, k)

-- a text has its own bytes and at most ten more
text_bytes : (xs : List ℕ) (n : ℕ) → length xs ≤ n → length (text xs) ≤ 10 + n
text_bytes xs n h = two (num (length xs)) xs 10 n (length-num (length xs)) h

-- an entry whose texts are short, and whose blocks have few bytes
pub record IsSlight (e : Entry) : Type 0 where
  pub name : length (canonical e.name) ≤ 32
  pub signed_name : length (canonical e.signed_name) ≤ 32
  pub writer : length e.writer ≤ 32
  pub link : length (link_text e.link) ≤ 32
  pub packdata : length e.packdata ≤ 32
  pub blocks : length (flat_map spelling.block e.blocks) ≤ 128

-- it has at most 400 bytes
pub slight_bytes : (e : Entry) → IsSlight e → length (spelling.entry e) ≤ 400
unfolding spelling.entry
slight_bytes e h =
    let name : List ℕ = text (canonical e.name) in
    let s1 : List ℕ = name ++ text (canonical e.signed_name) in
    let s2 : List ℕ = s1 ++ byte e.packing in
    let s3 : List ℕ = s2 ++ int e.time in
    let s4 : List ℕ = s3 ++ text e.writer in
    let s5 : List ℕ = s4 ++ byte (attr_byte e.attr) in
    let r1 : List ℕ = s5 ++ text (link_text e.link) in
    let r2 : List ℕ = r1 ++ text e.packdata in
    let blocks : List ℕ = num (length e.blocks) ++ flat_map spelling.block e.blocks in
    let r3 : List ℕ = r2 ++ blocks in
    let b1 = two name (text (canonical e.signed_name)) 42 42 (text_bytes (canonical e.name) 32 h.name) (text_bytes (canonical e.signed_name) 32 h.signed_name) in
    let b2 = two s1 (byte e.packing) 84 1 b1 (omega arith) in
    let b3 = two s2 (int e.time) 85 10 b2 (length-num (zigzag e.time)) in
    let b4 = two s3 (text e.writer) 95 42 b3 (text_bytes e.writer 32 h.writer) in
    let b5 = two s4 (byte (attr_byte e.attr)) 137 1 b4 (omega arith) in
    let c1 = two s5 (text (link_text e.link)) 138 42 b5 (text_bytes (link_text e.link) 32 h.link) in
    let c2 = two r1 (text e.packdata) 180 42 c1 (text_bytes e.packdata 32 h.packdata) in
    let few = two (num (length e.blocks)) (flat_map spelling.block e.blocks) 10 128 (length-num (length e.blocks)) h.blocks in
    let c3 = two r2 blocks 222 138 c2 few in
    let all = two r3 (num e.sequence) 360 10 c3 (length-num e.sequence) in
    let whole : length (r3 ++ num e.sequence) ≤ 400 = omega (arith, all) in
    whole

-- and so has what is shown of it
shown_slight : (read : Bool) (e : Entry) → IsSlight e → IsSlight (shown_as read e)
shown_slight true e h = h
shown_slight false e h = record {
  name = h.name;
  signed_name = h.signed_name;
  writer = h.writer;
  link = h.link;
  packdata = omega arith;
  blocks = omega arith;
}

-- ---- records

-- a record whose entry is slight, with a short text, or whose path is short
abbrev pub IsSlightRec : Rec → Type 0
IsSlightRec (Put e kept) = IsSlight e × (length kept ≤ 32)
IsSlightRec (Delete path) = length (canonical path) ≤ 32
IsSlightRec (Snap time) = ⊤

-- it has at most 450 bytes
pub slight_size : (r : Rec) → IsSlightRec r → size_of r ≤ 450
slight_size (Put e kept) h =
    let all = two (byte 1) (spelling.entry e ++ text kept) 1 442 (omega arith) (two (spelling.entry e) (text kept) 400 42 (slight_bytes e h.0) (text_bytes kept 32 h.1)) in
    omega (arith, all)
slight_size (Delete path) h = let all = two (byte 2) (text (canonical path)) 1 42 (omega arith) (text_bytes (canonical path) 32 h) in omega (arith, all)
slight_size (Snap time) h = let all = two (byte 3) (num time) 1 10 (omega arith) (length-num time) in omega (arith, all)

-- ---- a log has room

-- a smaller number is not at least as large
not_within : (a b : ℕ) → b < a → nat_le a b ≡ false
not_within a b h = grind (arith, nat_tests)

-- so many slight records have few bytes together
sum_few : (records : List Rec) → AllByRecursion IsSlightRec records → sum_by (λ (r : Rec). size_of r + 37) records ≤ 487 * length records
sum_few [] h = omega arith
sum_few (r ∷ records) h =
    let rest = sum_few records h.1 in
    let here = slight_size r h.0 in
    omega (arith, sum_by-cons (λ (r : Rec). size_of r + 37) r records, rest, here)

-- a log of 140,000 slight records at most has room for one more
pub has_room : (log : Log) (r : Rec) → log.limits ≡ record { records = 1048576; device = 1073741824; largest = 131072 } → AllByRecursion IsSlightRec log.records → length log.records ≤ 140000 → IsSlightRec r
    → HasRoom log r
has_room log r limits slight few h =
    let size = slight_size r h in
    let sum = sum_few log.records slight in
    let all : bytes_of log.records + size_of r + 37 ≤ 1073741824 = omega (arith, sum, size, few) in
    record {
      small = ap (λ (l : Limits). nat_lt l.largest (size_of r)) limits ∙ le-ltb 131072 (size_of r) (omega (arith, size));
      room = ap (λ (l : Limits). nat_le l.records (length log.records) || nat_lt l.device (bytes_of log.records + size_of r + 37)) limits
          ∙ ap (λ (b : Bool). b || nat_lt 1073741824 (bytes_of log.records + size_of r + 37)) (not_within 1048576 (length log.records) (omega (arith, few)))
          ∙ le-ltb 1073741824 (bytes_of log.records + size_of r + 37) all;
    }

-- ---- a tree of slight entries

pub record IsSlightTree (tree : Tree) : Type 0 where
  pub each : AllByRecursion (λ (item : PathName × Node). IsSlight item.1.entry) tree

-- a slight entry that is put leaves all entries slight
all_put : (k : PathName) (v : Node) (es : Tree) → AllByRecursion (λ (item : PathName × Node). IsSlight item.1.entry) es → IsSlight v.entry
    → AllByRecursion (λ (item : PathName × Node). IsSlight item.1.entry) (entries.put path_cmp k v es)
all_put k v [] h new = (new, tt)
all_put k v (e ∷ es) h new = go (path_cmp k e.0) (all_put k v es h.1 new)
  where
    go : (o : Ordering) → AllByRecursion (λ (item : PathName × Node). IsSlight item.1.entry) (entries.put path_cmp k v es)
        → AllByRecursion (λ (item : PathName × Node). IsSlight item.1.entry) (by_order o ((k, v) ∷ e ∷ es) ((e.0, v) ∷ es) (e ∷ entries.put path_cmp k v es))
    go Less rest = (new, h)
    go Equal rest = (new, h.1)
    go Greater rest = (h.0, rest)

-- and so does taking some out
all_filter : (test : PathName × Node → Bool) (es : Tree) → AllByRecursion (λ (item : PathName × Node). IsSlight item.1.entry) es
    → AllByRecursion (λ (item : PathName × Node). IsSlight item.1.entry) (filter test es)
all_filter test [] h = tt
all_filter test (e ∷ es) h = go (test e) (all_filter test es h.1)
  where
    go : (b : Bool) → AllByRecursion (λ (item : PathName × Node). IsSlight item.1.entry) (filter test es) → AllByRecursion (λ (item : PathName × Node). IsSlight item.1.entry) (cond b (e ∷ filter test es) (filter test es))
    go true rest = (h.0, rest)
    go false rest = rest

-- what stands in it is slight
pub slight_at : (tree : Tree) → IsSlightTree tree → (q : PathName) (node : Node) → node_at tree q ≡ Some node → IsSlight node.entry
unfolding node_at
slight_at tree h q node there = go tree h.each there
  where
    go : (es : Tree) → AllByRecursion (λ (item : PathName × Node). IsSlight item.1.entry) es → entries.find path_cmp q es ≡ Some node → IsSlight node.entry
    go [] all is = absurd (some_none node (sym is))
    go (e ∷ es) all is = by (eq_by_cmp path_cmp q e.0) is (go es all.1)
      where
        by : (b : Bool) → cond b (Some e.1) (entries.find path_cmp q es) ≡ Some node → (entries.find path_cmp q es ≡ Some node → IsSlight node.entry) → IsSlight node.entry
        by true same rest = subst (λ (n : Node). IsSlight n.entry) (some_same e.1 node same) all.0
        by false same rest = rest same

-- a slight record leaves a tree of slight entries
pub slight_after : (tree : Tree) (r : Rec) → IsSlightTree tree → IsSlightRec r → IsSlightTree (after_record tree r)
unfolding after_record
slight_after tree (Put e kept) h new = record { each = all_put e.name (record { entry = e; text = kept }) tree h.each new.0 }
slight_after tree (Delete path) h new = record { each = all_filter (λ (item : PathName × Node). not (path_eq path item.0)) tree h.each }
slight_after tree (Snap time) h new = h

-- it grows by at most one item a record
put_few : (k : PathName) (v : Node) (es : Tree) → length (entries.put path_cmp k v es) ≤ length es + 1
put_few k v [] = omega arith
put_few k v (e ∷ es) = go (path_cmp k e.0) (put_few k v es)
  where
    go : (o : Ordering) → length (entries.put path_cmp k v es) ≤ length es + 1 → length (by_order o ((k, v) ∷ e ∷ es) ((e.0, v) ∷ es) (e ∷ entries.put path_cmp k v es)) ≤ suc (length es) + 1
    go Less rest = omega arith
    go Equal rest = omega arith
    go Greater rest = omega (arith, rest)

-- what is taken out of a list leaves none more
filter_few : (test : PathName × Node → Bool) (es : Tree) → length (filter test es) ≤ length es
filter_few test [] = omega arith
filter_few test (e ∷ es) = go (test e) (filter_few test es)
  where
    go : (b : Bool) → length (filter test es) ≤ length es → length (cond b (e ∷ filter test es) (filter test es)) ≤ suc (length es)
    go true rest = omega (arith, rest)
    go false rest = omega (arith, rest)

-- a record adds one item to a tree at most
pub few_after : (tree : Tree) (r : Rec) → length (after_record tree r) ≤ length tree + 1
unfolding after_record
few_after tree (Put e kept) = put_few e.name (record { entry = e; text = kept }) tree
few_after tree (Delete path) = let less = filter_few (λ (item : PathName × Node). not (path_eq path item.0)) tree in omega (arith, less)
few_after tree (Snap time) = omega arith

-- ---- replies

-- a reply of what was done that is short is not cut
pub bounded_is : (d : Done) → length (wire.server (Answer (reply.Ok d))) ≤ 67108864 → bounded (reply.Ok d) ≡ reply.Ok d
bounded_is d short =
    let size : reply_size (reply.Ok d) ≤ 67108864 = omega (arith, short) in
    ap (λ (b : Bool). cond b (reply.TooLarge (reply_size (reply.Ok d))) (reply.Ok d)) (le-ltb 67108864 (reply_size (reply.Ok d)) size)

-- the reply with a slight entry is not cut
pub entry_reply_is : (look : Look) (e : Entry) → IsSlight e → bounded (reply.Ok (done.Entry (shown look e))) ≡ reply.Ok (done.Entry (shown look e))
entry_reply_is look e h =
    let read = (rights look e.name).read in
    let all = two (byte 0) (byte 2 ++ spelling.entry (shown_as read e)) 1 401 (omega arith)
    (two (byte 2) (spelling.entry (shown_as read e)) 1 400 (omega arith) (slight_bytes (shown_as read e) (shown_slight read e h))) in
    bounded_is (done.Entry (shown look e)) (omega (arith, all))

-- a row, where there is one, has few bytes
abbrev FewBytes : Option Row → Type 0
FewBytes None = ⊤
FewBytes (Some r) = length (wire.row r) ≤ 410

-- the row of a slight entry has few bytes
row_bytes : (look : Look) (pattern : PatternName) (path : PathName) (node : Node) → IsSlight node.entry → FewBytes (row_of look pattern path node)
unfolding row_of wire.row
row_bytes look pattern path node h = go (is_met look pattern path && (length path.elements == length pattern.elements || is_link (kind_of node)))
  where
    go : (b : Bool) → FewBytes (if b then Some (record { entry = shown look node.entry; rest = length pattern.elements - length path.elements }) else None)
    go true =
        let read = (rights look node.entry.name).read in
        let all = two (num (length pattern.elements - length path.elements)) (spelling.entry (shown_as read node.entry)) 10 400
        (length-num (length pattern.elements - length path.elements)) (slight_bytes (shown_as read node.entry) (shown_slight read node.entry h)) in
        omega (arith, all)
    go false = tt

-- one row more has few bytes more
cons_few : (path : PathName) (o : Option Row) (more : List (PathName × Row)) (n : ℕ) → FewBytes o → length (flat_map wire.row (values_of more)) ≤ 410 * n
    → length (flat_map wire.row (values_of (cons_option (option_map (λ (y : Row). (path, y)) o) more))) ≤ 410 * (n + 1)
cons_few path None more n few h = omega (arith, h)
cons_few path (Some r) more n few h = let all = two (wire.row r) (flat_map wire.row (values_of more)) 410 (410 * n) few h in omega (arith, all)

-- so all rows of a tree have few for each of its items
rows_few : (look : Look) (pattern : PatternName) (items : Tree) → AllByRecursion (λ (item : PathName × Node). IsSlight item.1.entry) items
    → length (flat_map wire.row (values_of (made_of (row_of look pattern) items))) ≤ 410 * length items
unfolding made_of
rows_few look pattern [] h = omega arith
rows_few look pattern (item ∷ items) h =
    let all = cons_few item.0 (row_of look pattern item.0 item.1) (made_of (row_of look pattern) items) (length items) (row_bytes look pattern item.0 item.1 h.0) (rows_few look pattern items h.1) in
    omega (arith, all)

-- and the reply with them is not cut
pub rows_reply_is : (look : Look) (pattern : PatternName) → IsSlightTree look.tree → length look.tree ≤ 150000
    → bounded (reply.Ok (done.Rows (rows look pattern))) ≡ reply.Ok (done.Rows (rows look pattern))
rows_reply_is look pattern slight few =
    let bytes = rows_few look pattern look.tree slight.each in
    let all = two (byte 0) (byte 3 ++ (num (length (rows look pattern)) ++ flat_map wire.row (rows look pattern))) 1 (1 + (10 + 410 * length look.tree)) (omega arith)
    (two (byte 3) (num (length (rows look pattern)) ++ flat_map wire.row (rows look pattern)) 1 (10 + 410 * length look.tree) (omega arith)
    (two (num (length (rows look pattern))) (flat_map wire.row (rows look pattern)) 10 (410 * length look.tree) (length-num (length (rows look pattern))) bytes)) in
    bounded_is (done.Rows (rows look pattern)) (omega (arith, all, few))
