-- How many bytes a reply has whose parts are bounded.
use Rattle.std.proofs.Common.{◌≡◌, ◌≤◌, ◌<◌, ◌+◌, ◌^◌, ℕ, Bool, true, false, List, [], ◌∷◌, ◌++◌, length, refl, sym, ap, Option, Some, None, Result, Ok, Err, arith}
use Rattle.std.specs.Prelude.{⊤, nat_lt, if◌then◌else◌}
use Rattle.std.proofs.lemmas.Bool.{false≢true, ltb-false}
use Rattle.std.proofs.lemmas.List.{length-append}
use Rattle.up_bytes.specs.Num.{num}
use Rattle.up_bytes.specs.Sizes.{capped}
use Rattle.up_bytes.specs.Spelling.{byte, int, list, text, zigzag}
use Rattle.up_bytes.proofs.Numbers.{length-num}
use Rattle.up_blocks.specs.Records.{largest_block}
use Rattle.up_names.specs.PathNames.{IsCanonical, PathName, canonical, path_of}
use Rattle.up_names.specs.declared.fault.NameFault.{NameFault}
use Rattle.up_names.proofs.Owners.{at_most_254}
use Rattle.up_entry.specs.Attrs.{attr_byte}
use Rattle.up_entry.specs.Spelling.{IsEntry, IsTarget, block, entry, heading, link_text}
use Rattle.up_entry.specs.declared.entries.Entry.{Entry}
use Rattle.up_entry.specs.declared.what.What.{What}
use Rattle.up_entry.specs.declared.what.What.TheVariants as what
use Rattle.up_keys.specs.Records.{has_bounds}
use Rattle.up_keys.proofs.Spelled.{is_small}
use Rattle.up_wire.specs.Bounds.{bounded, reply_size}
use Rattle.up_wire.specs.Keys.{key_record, logged}
use Rattle.up_wire.specs.Spelling.{IsReply, server, spelled_done, spelled_what, what_fields}
use Rattle.up_wire.specs.declared.messages.ServerFrame.TheVariants.{Answer}
use Rattle.up_wire.specs.declared.replies.Done.{Done}
use Rattle.up_wire.specs.declared.replies.Done.TheVariants as done
use Rattle.up_wire.specs.declared.replies.Reply.{Reply}
use Rattle.up_wire.specs.declared.replies.Reply.TheVariants as reply
use Rattle.up_alone.specs.Short.{IsShort, most_bytes}
use Rattle.up_alone.proofs.BareLemmas.{BareReply}
use Rattle.up_alone.proofs.LinkLemmas.{IsBare}

text_small : (bytes : List ℕ) (n : ℕ) → length bytes ≤ n → length (text bytes) ≤ 10 + n
text_small bytes n le = omega (arith, length-append (num (length bytes)) bytes, length-num (length bytes))

-- ---- entries

not_long : (b : Bool) (n : ℕ) (why : NameFault) (else_is : Result PathName NameFault) (path : PathName) → nat_lt 4096 n ≡ b → (if b then Err why else else_is) ≡ Ok path → n ≤ 4096
not_long true n why else_is path long is = absurd (cc)
not_long false n why else_is path short is = ltb-false 4096 n short

canonical_small : (path : PathName) → IsCanonical path → length (canonical path) ≤ 4096
unfolding path_of
canonical_small path is = not_long (nat_lt 4096 (length (canonical path))) (length (canonical path)) _ _ path refl is

link_small : (link : Option PathName) → IsTarget link → length (link_text link) ≤ 4096
link_small None is = omega arith
link_small (Some target) is = canonical_small target is

heading_small : (name signed_name : List ℕ) (packing : ℕ) (e : Entry) → length name ≤ 4096 → length signed_name ≤ 4096 → length e.writer ≤ 254
    → length (heading name signed_name packing e.time e.writer (attr_byte e.attr)) ≤ 8500
heading_small name signed_name packing e short signed writer =
    let one = text name in
    let two = text signed_name in
    let three = byte packing in
    let four = int e.time in
    let five = text e.writer in
    let six = byte (attr_byte e.attr) in
    omega (
      arith,
      length-append (one ++ two ++ three ++ four ++ five) six,
      length-append (one ++ two ++ three ++ four) five,
      length-append (one ++ two ++ three) four,
      length-append (one ++ two) three,
      length-append one two,
      text_small name 4096 short,
      text_small signed_name 4096 signed,
      length-num (zigzag e.time),
      text_small e.writer 254 writer,
    )

bare_small : (e : Entry) → IsEntry e → IsBare e → length (entry e) ≤ 16384
unfolding entry
bare_small e is bare =
    let front = heading (canonical e.name) (canonical e.signed_name) e.packing e.time e.writer (attr_byte e.attr) in
    let link = text (link_text e.link) in
    let packdata = text e.packdata in
    let blocks = list block e.blocks in
    let sequence = num e.sequence in
    let no_packdata : length e.packdata ≤ 0 = omega (arith, ap length bare.1) in
    let no_blocks : length (list block e.blocks) ≤ 10 = omega (arith, ap (λ bs. length (list block bs)) bare.0, length-append (num 0) [], length-num 0) in
    omega (
      arith,
      length-append (front ++ link ++ packdata ++ blocks) sequence,
      length-append (front ++ link ++ packdata) blocks,
      length-append (front ++ link) packdata,
      length-append front link,
      heading_small (canonical e.name) (canonical e.signed_name) e.packing e (canonical_small e.name is.name) (canonical_small e.signed_name is.signed_name) (at_most_254 e.writer e.writer is.writer),
      text_small (link_text e.link) 4096 (link_small e.link is.link),
      text_small e.packdata 0 no_packdata,
      no_blocks,
      length-num e.sequence,
    )

-- ---- replies

what_small : (w : What) → length (what_fields w) ≤ 10
what_small what.Name = omega arith
what_small what.SignedName = omega arith
what_small what.Writer = omega arith
what_small what.Packing = omega arith
what_small what.Attr = omega arith
what_small what.Link = omega arith
what_small what.Blocks = omega arith
what_small what.Packdata = omega arith
what_small what.Root = omega arith
what_small what.Control = omega arith
what_small what.ControlSize = omega arith
what_small what.Sequence = omega arith
what_small (what.Pattern element) = length-num element
what_small what.Reference = omega arith
what_small what.Block = omega arith
what_small what.Key = omega arith
what_small what.SnapshotWatch = omega arith
what_small what.GroupName = omega arith

-- what was done is told in few bytes: a position, a reference, a block, or a record that keeps its bounds
abbrev pub FewDone : Done → Type 0
FewDone (done.Changed position) = ⊤
FewDone (done.Entry e) = ⊥
FewDone (done.Rows rows) = ⊥
FewDone (done.Access found) = ⊥
FewDone (done.Events events next) = ⊥
FewDone (done.Text bytes) = ⊥
FewDone (done.Reference reference) = ⊤
FewDone (done.Bytes bytes) = length bytes ≤ largest_block
FewDone (done.Key known) = has_bounds known ≡ true

-- a reply has few bytes: what was done is told in few, or a link has neither blocks nor packdata
abbrev pub IsFew : Reply → Type 0
IsFew (reply.Ok d) = FewDone d
IsFew (reply.FollowLink e) = IsBare e
IsFew other = ⊤

done_small : (d : Done) → IsReply (reply.Ok d) → FewDone d → length (spelled_done d) ≤ 1100000
done_small (done.Changed position) is few = omega (arith, length-num position)
done_small (done.Entry e) is few = absurd few
done_small (done.Rows rows) is few = absurd few
done_small (done.Access found) is few = absurd few
done_small (done.Events events next) is few = absurd few
done_small (done.Text bytes) is few = absurd few
done_small (done.Reference reference) is few = omega (arith, is)
done_small (done.Bytes bytes) is few = omega (arith, text_small bytes largest_block few)
done_small (done.Key known) is few = omega (arith, is_small known is.user few)

-- a reply of few bytes is short
pub few_short : (given : Reply) → IsReply given → IsFew given → IsShort given
few_short (reply.Ok d) is few = omega (arith, done_small d is few)
few_short (reply.Invalid w) is few = omega (arith, what_small w)
few_short reply.WrongHost is few = omega arith
few_short (reply.FollowLink e) is few = omega (arith, bare_small e is few)
few_short reply.Private is few = omega arith
few_short (reply.Permission r) is few = omega arith
few_short reply.NotExist is few = omega arith
few_short reply.NotDir is few = omega arith
few_short reply.IsDir is few = omega arith
few_short reply.Exist is few = omega arith
few_short (reply.BadSequence current) is few = omega (arith, length-num current)
few_short reply.NotEmpty is few = omega arith
few_short (reply.BadBlock reference) is few = omega (arith, is)
few_short (reply.BadText line) is few = omega (arith, length-num line)
few_short (reply.TooLarge size) is few = omega (arith, length-num size)
few_short (reply.Full records) is few = omega (arith, length-num records)
few_short reply.Io is few = omega arith
few_short reply.OutOfMemory is few = omega arith

within : (n : ℕ) → nat_lt 67108864 (capped n) ≡ false → n ≤ most_bytes
within n h = let le : capped n ≤ 67108864 = ltb-false 67108864 (capped n) h in omega (arith, le)

done_short : (d : Done) → IsShort (bounded (reply.Ok d))
done_short d = go (nat_lt 67108864 (reply_size (reply.Ok d))) refl
  where
    go : (b : Bool) → nat_lt 67108864 (reply_size (reply.Ok d)) ≡ b → IsShort (if b then reply.TooLarge (reply_size (reply.Ok d)) else reply.Ok d)
    go true is = omega (arith, length-num (reply_size (reply.Ok d)))
    go false is = within (length (server (Answer (reply.Ok d)))) is

-- a bounded reply is short, where the link that it tells to follow is bare
pub bounded_short : (given : Reply) → BareReply given → IsReply (bounded given) → IsShort (bounded given)
bounded_short (reply.Ok d) bare is = done_short d
bounded_short (reply.Invalid w) bare is = few_short (reply.Invalid w) is tt
bounded_short reply.WrongHost bare is = few_short reply.WrongHost is tt
bounded_short (reply.FollowLink e) bare is = few_short (reply.FollowLink e) is bare
bounded_short reply.Private bare is = few_short reply.Private is tt
bounded_short (reply.Permission r) bare is = few_short (reply.Permission r) is tt
bounded_short reply.NotExist bare is = few_short reply.NotExist is tt
bounded_short reply.NotDir bare is = few_short reply.NotDir is tt
bounded_short reply.IsDir bare is = few_short reply.IsDir is tt
bounded_short reply.Exist bare is = few_short reply.Exist is tt
bounded_short (reply.BadSequence current) bare is = few_short (reply.BadSequence current) is tt
bounded_short reply.NotEmpty bare is = few_short reply.NotEmpty is tt
bounded_short (reply.BadBlock reference) bare is = few_short (reply.BadBlock reference) is tt
bounded_short (reply.BadText line) bare is = few_short (reply.BadText line) is tt
bounded_short (reply.TooLarge size) bare is = few_short (reply.TooLarge size) is tt
bounded_short (reply.Full records) bare is = few_short (reply.Full records) is tt
bounded_short reply.Io bare is = few_short reply.Io is tt
bounded_short reply.OutOfMemory bare is = few_short reply.OutOfMemory is tt
