-- What calls within a run leave behind. This project's own.
use Rattle.std.specs.Prelude.{◌≡◌, ◌⊎◌, ℕ, List, ◌∷◌, ◌++◌, Option, Result, Ok, Err}
use Rattle.std.specs.Io.KnownBytes.{Appends}
use Rattle.up_client.specs.Getting.{get_talk}
use Rattle.up_client.specs.Talks.{Held}
use Rattle.up_client.specs.declared.fault.ClientFault.{ClientFault}
use Rattle.up_ends.specs.Writing.{WritesPart}
use Rattle.up_lists.specs.Runs.{Run}
use Rattle.up_names.specs.PathNames.{PathName}
use Rattle.up_names.specs.Texts.{Text}
use Rattle.up_wire.specs.declared.replies.Reply.{Reply}
use Rattle.up_wire.specs.declared.requests.Request.{Request}
use Rattle.up_cache.specs.Copying.{PathResult, PathDid, PathCame, PathDoes, result_of_get, printed, did_text}
use Rattle.up_cache.specs.declared.stop.Stop.{Stop}
use Rattle.up_cache.specs.declared.stop.Stop.TheVariants as stop

-- the number of the status with which a run ends
abbrev pub code_by : Result (Unit {0}) Stop → ℕ
code_by (Ok done) = 0
code_by (Err stop.WriteFault) = 3
code_by (Err stop.OutOfMemory) = 4
code_by (Err stop.AskFault) = 11

-- a text was written; or a front of it, where a write failed or there was no memory
abbrev pub PrintedAs : Option Text → Option Text → Text → Result (Unit {0}) Stop → Type 0
PrintedAs old new text (Ok done) = Appends old new text
PrintedAs old new text (Err stop.WriteFault) = WritesPart old new text
PrintedAs old new text (Err stop.OutOfMemory) = WritesPart old new text
PrintedAs old new text (Err stop.AskFault) = ⊥

-- what was done is printed; or the run ends where nothing was
abbrev pub PrintedResult : Option Text → Option Text → PathResult → Result (Unit {0}) Stop → Type 0
PrintedResult old new (Ok did) result = PrintedAs old new (did_text did) result
PrintedResult old new (Err why) result = (result ≡ Err why) × (new ≡ old)

-- Something came of a word, and it was told.
pub record WordCopied {S : Type 0} (answers : S → Request → Option Reply → S → Type 0)
    (old new : Option Text) (a : S) (word : Text) (result : Result (Unit {0}) Stop) (b : S) : Type 0 where
  pub came : PathResult
  pub path : PathCame answers a word came b
  pub printed : PrintedResult old new came result

-- The file at a path was got, and what came of that was told.
pub record FileCopied {S : Type 0} (answers : S → Request → Option Reply → S → Type 0) (old new : Option Text)
    (a : S) (path : PathName) (result : Result (Unit {0}) Stop) (b : S) : Type 0 where
  pub got : Result (List ℕ) ClientFault
  pub talk : Held answers (get_talk path) a got b
  pub printed : PrintedResult old new (result_of_get got) result

module _ {S : Type 0} (answers : S → Request → Option Reply → S → Type 0) where
  -- what comes of the next word by why a run ends there
  abbrev pub StopsBy : S → List Text → Stop → S → Type 0
  StopsBy last rest stop.AskFault b =
      (word : Text) × ((more : List Text) × ((rest ≡ word ∷ more) × PathCame answers last word (Err stop.AskFault) b))
  StopsBy last rest stop.OutOfMemory b =
      (b ≡ last) ⊎ ((word : Text) × ((more : List Text) × ((rest ≡ word ∷ more) × PathCame answers last word (Err stop.OutOfMemory) b)))
  StopsBy last rest stop.WriteFault b = b ≡ last

  -- what was written by why a run ends
  abbrev pub WrittenBy : Option Text → Option Text → Text → Stop → Type 0
  WrittenBy old new text stop.AskFault = Appends old new text
  WrittenBy old new text why = WritesPart old new text

  -- Words were done one after the other and printed, up to one, and this is why.
  pub record Stopped (old new : Option Text) (a : S) (words : List Text) (why : Stop) (b : S) : Type 0 where
    pub done : List Text
    pub rest : List Text
    pub cut : done ++ rest ≡ words
    pub dids : List PathDid
    pub last : S
    pub run : Run (PathDoes answers) a done dids last
    pub stops : StopsBy last rest why b
    pub written : WrittenBy old new (printed dids) why

  -- all words were done one after the other and printed
  pub record Running (old new : Option Text) (a : S) (words : List Text) (b : S) : Type 0 where
    pub dids : List PathDid
    pub run : Run (PathDoes answers) a words dids b
    pub written : Appends old new (printed dids)

  -- all words were done and printed, or this is why the run stopped before one
  abbrev pub WordsCopied : Option Text → Option Text → S → List Text → Result (Unit {0}) Stop → S → Type 0
  WordsCopied old new a words (Ok done) b = Running old new a words b
  WordsCopied old new a words (Err why) b = Stopped old new a words why b
