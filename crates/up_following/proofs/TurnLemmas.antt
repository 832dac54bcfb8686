-- How a line ends, by what its parts answered.
use Rattle.std.proofs.Common.{◌≡◌, ◌++◌, inl, inr, Result, Ok, Err, refl, sym, ap, append-nil}
use Rattle.std.specs.Result.{IsErrAnd}
use Rattle.up_names.specs.Texts.{Text}
use Rattle.up_wire.specs.declared.replies.Reply.{Reply}
use Rattle.up_wire.specs.declared.replies.Reply.TheVariants as reply
use Rattle.up_following.specs.FollowTurns.{LineResult, LineDid, LineGathered, result_of_reply, did_text}
use Rattle.up_following.specs.declared.stop.LineStop.{LineStop}
use Rattle.up_following.specs.declared.stop.LineStop.TheVariants as stop

-- there was no memory to do it
pub unmade : (came : LineResult → Type 0) (old new : Text) (result : Result (Unit {0}) LineStop) → came (Err stop.OutOfMemory) → IsErrAnd result (λ why. why ≡ stop.OutOfMemory) → LineGathered came old result new
unmade came old new (Ok done) made is = absurd is
unmade came old new (Err stop.OutOfMemory) made is = inl made
unmade came old new (Err stop.Malformed) made is = absurd (cc)

-- or none for the text of what it did
pub unsaid : (came : LineResult → Type 0) (did : LineDid) (old new : Text) (result : Result (Unit {0}) LineStop) → came (Ok did) → IsErrAnd result (λ why. why ≡ stop.OutOfMemory) → LineGathered came old result new
unsaid came did old new (Ok done) made is = absurd is
unsaid came did old new (Err stop.OutOfMemory) made is = inr (did, made)
unsaid came did old new (Err stop.Malformed) made is = absurd (cc)

-- what is said of a part is said of the whole
pub weaker : (one two : LineResult → Type 0) (old new : Text) (result : Result (Unit {0}) LineStop) → ((came : LineResult) → one came → two came) → LineGathered one old result new → LineGathered two old result new
weaker one two old new (Ok done) each turned = (turned.0, (each (Ok turned.0) turned.1.0, turned.1.1))
weaker one two old new (Err stop.OutOfMemory) each (inl came) = inl (each (Err stop.OutOfMemory) came)
weaker one two old new (Err stop.OutOfMemory) each (inr made) = inr (made.0, each (Ok made.0) made.1)
weaker one two old new (Err stop.Malformed) each turned = (each (Err stop.Malformed) turned.0, turned.1)

-- nothing was done, and nothing is printed
pub silent : (came : LineResult → Type 0) (text : Text) → came (Ok LineDid.Nothing) → LineGathered came text (Ok tt) text
silent came text is = (LineDid.Nothing, (is, sym (append-nil text)))

-- something was done and said
pub says : (came : LineResult) (did : LineDid) (old new : Text) → came ≡ Ok did → new ≡ old ++ did_text did → (x : LineDid) × ((Ok x ≡ came) × (new ≡ old ++ did_text x))
says came did old new is text = (did, (sym is, text))

-- what is said of a reply that is not want of memory
pub replied_so : (given : Reply) → (given ≡ reply.OutOfMemory → ⊥) → result_of_reply given ≡ Ok (LineDid.Replied given)
replied_so reply.OutOfMemory not = absurd (not refl)
replied_so (reply.Ok what) not = refl
replied_so (reply.Invalid what) not = refl
replied_so reply.WrongHost not = refl
replied_so (reply.FollowLink entry) not = refl
replied_so reply.Private not = refl
replied_so (reply.Permission right) not = refl
replied_so reply.NotExist not = refl
replied_so reply.NotDir not = refl
replied_so reply.IsDir not = refl
replied_so reply.Exist not = refl
replied_so (reply.BadSequence n) not = refl
replied_so reply.NotEmpty not = refl
replied_so (reply.BadBlock reference) not = refl
replied_so (reply.BadText line) not = refl
replied_so (reply.TooLarge size) not = refl
replied_so (reply.Full records) not = refl
replied_so reply.Io not = refl
