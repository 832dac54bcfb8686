-- Rows of a table that are looked at one after the other.
use Rattle.std.proofs.Common.{◌≡◌, ◌≢◌, inl, inr, ℕ, ◌+◌, ◌<◌, List, ◌∷◌, length, drop, get_or, Result, Ok, Err, IfOk, sym, subst, ◌∙◌}
use Rattle.std.proofs.lemmas.List.{drop_more}
use Rattle.up_wire.specs.declared.requests.Request.{Request}
use Rattle.up_wire.specs.declared.replies.Reply.{Reply}
use Rattle.up_client.specs.Tables.{IsReplyIn}

-- a row, and those behind it
row_step : (rows : List (Request × Reply)) (k : ℕ) (row : Request × Reply) → k < length rows → row ≡ get_or rows k row → row ∷ drop (k + 1) rows ≡ drop k rows
row_step rows k row below at = sym (drop_more rows k row below ∙ (λ j. sym at j ∷ drop (k + 1) rows))

-- the row has the request
pub tells_here : {E : Type 0} (rows : List (Request × Reply)) (k : ℕ) (row : Request × Reply) (request : Request) (result : Result Reply E)
    → k < length rows → row ≡ get_or rows k row → row.0 ≡ request
    → ((reply : Reply) → IsReplyIn (drop k rows) request reply → IsReplyIn rows request reply)
    → IfOk result (λ copy. copy ≡ row.1) → IfOk result (λ reply. IsReplyIn rows request reply)
tells_here rows k row request (Ok reply) below at same on copied =
    on reply (subst (λ (rest : List (Request × Reply)). IsReplyIn rest request reply) (row_step rows k row below at) (inl (same, sym copied)))
tells_here rows k row request (Err fault) below at same on copied = copied

-- the row has another request
pub tells_behind : (rows : List (Request × Reply)) (k : ℕ) (row : Request × Reply) (request : Request)
    → k < length rows → row ≡ get_or rows k row → row.0 ≢ request
    → ((reply : Reply) → IsReplyIn (drop k rows) request reply → IsReplyIn rows request reply)
    → (reply : Reply) → IsReplyIn (drop (k + 1) rows) request reply → IsReplyIn rows request reply
tells_behind rows k row request below at other on reply tells =
    on reply (subst (λ (rest : List (Request × Reply)). IsReplyIn rest request reply) (row_step rows k row below at) (inr (other, tells)))
