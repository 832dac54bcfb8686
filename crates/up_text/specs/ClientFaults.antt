-- The lines that tell why a client could not get or put a file, each without the session's number and its LF. This project's own.
use Rattle.std.specs.Prelude.{List, [], ◌∷◌, map, codes, decimal}
use Rattle.up_client.specs.declared.fault.ClientFault.{ClientFault}
use Rattle.up_client.specs.declared.fault.ClientFault.TheVariants as fault
use Rattle.up_names.specs.Texts.{Text}
use Rattle.up_refs.specs.References.{text_of}
use Rattle.up_text.specs.Lines.{spaced}
use Rattle.up_text.specs.Replies.{reply_words}

-- The words of each line: of a refusal those of its reply. A server that gave no answer, and want of memory, have no line.
unfoldable pub fault_words : ClientFault → List (List Text)
fault_words (fault.Refused reply) = reply_words reply
fault_words fault.TooManyLinks = (codes "toomanylinks" ∷ []) ∷ []
fault_words fault.TooLong = (codes "toolong" ∷ []) ∷ []
fault_words fault.IsDir = (codes "isdir" ∷ []) ∷ []
fault_words fault.NoRead = (codes "noread" ∷ []) ∷ []
fault_words (fault.Opaque packing) = (codes "opaque" ∷ decimal packing ∷ []) ∷ []
fault_words (fault.Elsewhere i) = (codes "elsewhere" ∷ decimal i ∷ []) ∷ []
fault_words (fault.BadSize i wanted got) = (codes "badsize" ∷ decimal i ∷ decimal wanted ∷ decimal got ∷ []) ∷ []
fault_words (fault.Corrupt wanted got) = (codes "corrupt" ∷ text_of wanted ∷ text_of got ∷ []) ∷ []
fault_words fault.Failed = []
fault_words fault.Odd = (codes "odd" ∷ []) ∷ []
fault_words fault.OutOfMemory = []

-- the lines of a client's fault, each of its words
unfoldable pub fault_lines : ClientFault → List Text
fault_lines told = map (λ words. spaced words) (fault_words told)
