-- Whoever is steady with a table, and a cache over him.
use Rattle.std.proofs.Common.{◌≡◌, ◌≢◌, ◌⊎◌, inl, inr, ℕ, zero, suc, ◌+◌, ◌++◌, Bool, true, false, List, [], ◌∷◌, take, Option, Some, None, Result, Ok, Err, refl, sym, ap, subst, ◌∙◌}
use Rattle.std.specs.Prelude.{if◌then◌else◌, ⊤}
use Rattle.std.specs.List.{AllByRecursion, concat}
use Rattle.std.specs.Str.{bytes_eq}
use Rattle.sha2.specs.Sha256.{sha256}
use Rattle.up_refs.specs.References.{reference_in, text_of}
use Rattle.up_refs.proofs.Texts.{text_of-reference_in}
use Rattle.up_names.specs.PathNames.{PathName}
use Rattle.up_entry.specs.declared.entries.Block.{Block as EntryBlock}
use Rattle.up_entry.specs.declared.entries.Endpoint.{Endpoint}
use Rattle.up_entry.specs.declared.entries.Endpoint.TheVariants as endpoints
use Rattle.up_wire.specs.declared.requests.Request.{Request}
use Rattle.up_wire.specs.declared.requests.Request.TheVariants as requests
use Rattle.up_wire.specs.declared.replies.Done.{Done}
use Rattle.up_wire.specs.declared.replies.Done.TheVariants as dones
use Rattle.up_wire.specs.declared.replies.Reply.{Reply}
use Rattle.up_wire.specs.declared.replies.Reply.TheVariants as replies
use Rattle.up_client.specs.declared.fault.ClientFault.{ClientFault}
use Rattle.up_client.specs.declared.fault.ClientFault.TheVariants as faults
use Rattle.up_client.specs.Getting.{block_from, blocks_in, fetched_at, fetching, get_talk, joined_blocks, look_up_at, reading}
use Rattle.up_client.specs.Links.{following, leads_to, led, short}
use Rattle.up_client.specs.Replies.{outcome}
use Rattle.up_client.specs.Tables.{AnswersFrom, IsReplyIn, Table}
use Rattle.up_client.specs.Talks.{Held, Talk, Talking, and_then, asking, done, ended, heard, reply_to, unanswered, wanting}
use Rattle.up_cache.specs.Blocks.{Block, BlockCache, held, in_front, with_block}
use Rattle.up_cache.specs.Caching.{AnsweredBy, CachedAnswers, Caching, FromHere, Keeps, PassedOn, block_of, brought, caching, held_for, wanted}
use Rattle.up_cache.specs.Steady.{IsSteady, Leads, Plain}
use Rattle.up_cache.proofs.Keeping.{all_in_front, all_taken, found_is, held_named}

-- ---- a table

rows_stay : (table b : Table) → Leads AnswersFrom table b → b.rows ≡ table.rows
rows_stay table b Leads.here = refl
rows_stay table b (Leads.further {b = mid} way answer) = answer.rows ∙ rows_stay table mid way

pub table_steady : (table : Table) → IsSteady AnswersFrom table.rows table
table_steady table b c request reply way answer known = subst (λ rows. IsReplyIn rows request reply) (rows_stay table b way) (answer.reply known)

-- ---- a cache

-- a block is a reply of the table
abbrev OfTable : List (Request × Reply) → Block → Type 0
OfTable rows block = IsReplyIn rows (requests.Get (text_of block.0)) (replies.Ok (dones.Bytes block.1))

same_block : (a b : Block) → Some a ≡ Some b → a ≡ b
same_block a b e = cc

block_of_is : (rows : List (Request × Reply)) (reference bytes : List ℕ) (block : Block) → block_of reference bytes ≡ Some block → OfTable rows (reference, bytes) → OfTable rows block
block_of_is rows reference bytes block is told = by (bytes_eq (sha256 bytes) reference) is
  where
    by : (t : Bool) → (if t then Some (reference, bytes) else None) ≡ Some block → OfTable rows block
    by true e = subst (OfTable rows) (same_block (reference, bytes) block e) told
    by false e = absurd (cc)

brought_told : (rows : List (Request × Reply)) (text reference : List ℕ) (given : Option Reply) (block : Block) → reference_in text ≡ Some reference → brought (Some reference) given ≡ Some block
    → ((reply : Reply) → given ≡ Some reply → reply ≢ replies.OutOfMemory → IsReplyIn rows (requests.Get text) reply) → OfTable rows block
brought_told rows text reference (Some (replies.Ok (dones.Bytes bytes))) block named is told =
    let reply : IsReplyIn rows (requests.Get text) (replies.Ok (dones.Bytes bytes)) = told _ refl (λ e. cc) in
    block_of_is rows reference bytes block is (subst (λ t. IsReplyIn rows (requests.Get t) (replies.Ok (dones.Bytes bytes))) (sym (text_of-reference_in text reference named)) reply)
brought_told rows text reference (Some (replies.Ok d)) block named is told = absurd (cc)
brought_told rows text reference (Some reply) block named is told = absurd (cc)
brought_told rows text reference None block named is told = absurd (cc)

no_block : (given : Option Reply) (block : Block) → brought None given ≡ Some block → ⊥
no_block given block is = cc

brought_by : (rows : List (Request × Reply)) (request : Request) (given : Option Reply) (block : Block) → brought (wanted request) given ≡ Some block
    → ((reply : Reply) → given ≡ Some reply → reply ≢ replies.OutOfMemory → IsReplyIn rows request reply) → OfTable rows block
brought_by rows (requests.Get text) given block is told = by (reference_in text) refl is
  where
    by : (found : Option (List ℕ)) → reference_in text ≡ found → brought found given ≡ Some block → OfTable rows block
    by None none e = absurd (no_block given block e)
    by (Some reference) some e = brought_told rows text reference given block some e told
brought_by rows request given block is told = absurd (no_block given block is)

module _ {S : Type 0} (answers : S → Request → Option Reply → S → Type 0) (rows : List (Request × Reply)) (start : S) (steady : IsSteady answers rows start) where
  -- whoever is asked was led there, and each block is a reply of the table
  record Within (b : Caching S) : Type 0 where
    way : Leads answers start b.ask
    told : AllByRecursion (OfTable rows) b.cache.blocks

  kept_told : (old new : BlockCache) (found : Option Block) → AllByRecursion (OfTable rows) old.blocks → ((block : Block) → found ≡ Some block → OfTable rows block) → Keeps old found new → AllByRecursion (OfTable rows) new.blocks
  kept_told old new None all one is = subst (λ (k : BlockCache). AllByRecursion (OfTable rows) k.blocks) (sym is) all
  kept_told old new (Some block) all one (inl is) =
      subst (λ (k : BlockCache). AllByRecursion (OfTable rows) k.blocks) (sym is) (all_taken (OfTable rows) old.capacity (block ∷ old.blocks) (one block refl, all))
  kept_told old new (Some block) all one (inr is) = subst (λ (k : BlockCache). AllByRecursion (OfTable rows) k.blocks) (sym is) all

  front_told : (cache : BlockCache) (reference : Option (List ℕ)) (block : Block) → AllByRecursion (OfTable rows) cache.blocks → held_for cache.blocks reference ≡ Some block → AllByRecursion (OfTable rows) (in_front block cache).blocks
  front_told cache None block all is = absurd (cc)
  front_told cache (Some reference) block all is = all_in_front (OfTable rows) reference cache block all is

  stays_within : (b c : Caching S) (request : Request) (given : Option Reply) (found : Option Block) → held_for b.cache.blocks (wanted request) ≡ found → Within b → AnsweredBy answers found b request given c → Within c
  stays_within b c request given (Some block) found at here = record {
    way = subst (Leads answers start) (sym here.ask_stays) at.way;
    told = subst (λ (k : BlockCache). AllByRecursion (OfTable rows) k.blocks) (sym here.to_front) (front_told b.cache (wanted request) block at.told found);
  }
  stays_within b c request given None found at passed = record {
    way = Leads.further at.way passed.answered;
    told = kept_told b.cache c.cache (brought (wanted request) given) at.told
        (λ block is. brought_by rows request given block is (λ reply e known. steady b.ask c.ask request reply at.way (subst (λ g. answers b.ask request g c.ask) e passed.answered) known)) passed.cache;
  }

  led_within : (a b : Caching S) → Within a → Leads (CachedAnswers answers) a b → Within b
  led_within a b at Leads.here = at
  led_within a b at (Leads.further {b = mid} {request = request} {given = given} way answer) = stays_within mid b request given (held_for mid.cache.blocks (wanted request)) refl (led_within a mid at way) answer

  -- the reference that a request has is that of its text
  told_for : (request : Request) (cache : BlockCache) (block : Block) → AllByRecursion (OfTable rows) cache.blocks → held_for cache.blocks (wanted request) ≡ Some block → IsReplyIn rows request (replies.Ok (dones.Bytes block.1))
  told_for (requests.Get text) cache block all is = by (reference_in text) refl is
    where
      by : (found : Option (List ℕ)) → reference_in text ≡ found → held_for cache.blocks found ≡ Some block → IsReplyIn rows (requests.Get text) (replies.Ok (dones.Bytes block.1))
      by None none e = absurd (cc)
      by (Some reference) some e =
          let told : OfTable rows block = found_is (OfTable rows) (bytes_eq reference) cache.blocks block all e in
          let name : text_of block.0 ≡ text = ap text_of (held_named cache.blocks reference block e) ∙ text_of-reference_in text reference some in
          subst (λ t. IsReplyIn rows (requests.Get t) (replies.Ok (dones.Bytes block.1))) name told
  told_for request cache block all is = absurd (cc)

  answered_told : (b c : Caching S) (request : Request) (reply : Reply) (found : Option Block) → held_for b.cache.blocks (wanted request) ≡ found → Within b → AnsweredBy answers found b request (Some reply) c → reply ≢ replies.OutOfMemory → IsReplyIn rows request reply
  answered_told b c request reply (Some block) found at here known = by here.reply
    where
      same : Some reply ≡ Some (replies.Ok (dones.Bytes block.1)) → replies.Ok (dones.Bytes block.1) ≡ reply
      same e = cc

      by : (Some reply ≡ Some (replies.Ok (dones.Bytes block.1))) ⊎ (Some reply ≡ Some replies.OutOfMemory) → IsReplyIn rows request reply
      by (inl is) = subst (IsReplyIn rows request) (same is) (told_for request b.cache block at.told found)
      by (inr is) = absurd (known (cc))
  answered_told b c request reply None found at passed known = steady b.ask c.ask request reply at.way passed.answered known

  -- a new cache is steady with the same table
  pub cache_steady : (capacity : ℕ) → IsSteady (CachedAnswers answers) rows (caching start capacity)
  cache_steady capacity b c request reply way answer known =
      answered_told b c request reply (held_for b.cache.blocks (wanted request)) refl (led_within (caching start capacity) b (record { way = Leads.here; told = tt }) way) answer known

  pub new_steady : (capacity : ℕ) (cache : BlockCache) → cache ≡ record { blocks = []; capacity = capacity } → IsSteady (CachedAnswers answers) rows (record { ask = start; cache = cache; asked = 0; kept = 0 })
  new_steady capacity cache is = subst (λ (k : BlockCache). IsSteady (CachedAnswers answers) rows (record { ask = start; cache = k; asked = 0; kept = 0 })) (sym is) (cache_steady capacity)

-- ---- what is got

-- where the reply to a request is want of memory, a conversation ends with that
abbrev Heeds : {X : Type 0} → Talking X → Type 0
Heeds (done x) = ⊤
Heeds {X} (asking request hear) = (hear replies.OutOfMemory ≡ done (Err faults.OutOfMemory)) × ((reply : Reply) → Heeds (hear reply))

heeds_then : {X Y : Type 0} (talk : Talking X) (more : X → Talking Y) → Heeds talk → ((x : X) → Heeds (more x)) → Heeds (and_then talk more)
heeds_then (done (Ok x)) more first after = after x
heeds_then (done (Err fault)) more first after = tt
heeds_then (asking request hear) more first after = (ap (λ t. and_then t more) first.0, λ reply. heeds_then (hear reply) more (first.1 reply) after)

heeds_led : (o : Option PathName) (go : PathName → Talking Done) (reply : Reply) → ((next : PathName) → Heeds (go next)) → Heeds (led o go reply)
heeds_led None go reply on = tt
heeds_led (Some next) go reply on = on next

heeds_following : (request : PathName → Request) (more : ℕ) (path : PathName) → Heeds (following request more path)
unfolding following
heeds_following request zero path = (refl, λ reply. heeds_led (leads_to path reply) (λ next. done (Err faults.TooManyLinks)) reply (λ next. tt))
heeds_following request (suc more) path = (
  refl,
  λ reply. heeds_led (leads_to path reply) (λ next. and_then (done (short next)) (following request more)) reply
      (λ next. heeds_then (done (short next)) (following request more) tt (λ fit. heeds_following request more fit)),
)

heeds_fetched : (endpoint : Endpoint) (i : ℕ) (block : EntryBlock) → Heeds (fetched_at endpoint i block)
heeds_fetched endpoints.Local i block = (refl, λ reply. tt)
heeds_fetched (endpoints.Address address) i block = tt

heeds_fetching : (i : ℕ) (blocks : List EntryBlock) (read : List (List ℕ)) → Heeds (fetching i blocks read)
heeds_fetching i [] read = tt
heeds_fetching i (block ∷ blocks) read =
    heeds_then (fetched_at block.location.endpoint i block) (λ bytes. fetching (i + 1) blocks (read ++ bytes ∷ [])) (heeds_fetched block.location.endpoint i block) (λ bytes. heeds_fetching (i + 1) blocks (read ++ bytes ∷ []))

heeds_joined : (blocks : List EntryBlock) → Heeds (joined_blocks blocks)
heeds_joined blocks = heeds_then (fetching 0 blocks []) (λ read. done (Ok (concat read))) (heeds_fetching 0 blocks []) (λ read. tt)

heeds_get : (path : PathName) → Heeds (get_talk path)
heeds_get path = heeds_then (following look_up_at 20 path) reading (heeds_following look_up_at 20 path) (λ d. heeds_then (done (blocks_in d)) joined_blocks tt heeds_joined)

-- a reply is want of memory, or it is not
wants_or_not : (reply : Reply) → (reply ≡ replies.OutOfMemory) ⊎ (reply ≢ replies.OutOfMemory)
wants_or_not replies.OutOfMemory = inl refl
wants_or_not reply = inr (λ e. cc)

module _ {S : Type 0} (answers : S → Request → Option Reply → S → Type 0) where
  -- what ended at once with want of memory ended with that
  held_wanting : {X : Type 0} (result : Result X ClientFault) (a b : S) → Held answers (done (Err faults.OutOfMemory)) a result b → result ≡ Err faults.OutOfMemory
  held_wanting result a b ended = refl
  held_wanting result a b wanting = refl

  -- what is asked leads on
  pub held_leads : {X : Type 0} (start : S) (talk : Talking X) (result : Result X ClientFault) (a b : S) → Leads answers start a → Held answers talk a result b → Leads answers start b
  held_leads start talk result a b way ended = way
  held_leads start talk result a b way wanting = way
  held_leads start talk result a b way (unanswered none) = Leads.further way none
  held_leads start talk result a b way (heard {hear = hear} {next = next} reply answer rest) = held_leads start (hear reply) result next b (Leads.further way answer) rest

  module _ (rows : List (Request × Reply)) (start : S) (steady : IsSteady answers rows start) where
    held_plain : {X : Type 0} (talk : Talking X) (result : Result X ClientFault) (a b : S) → Heeds talk → Leads answers start a → Held answers talk a result b
        → result ≢ Err faults.Failed → result ≢ Err faults.OutOfMemory → Plain rows talk result
    held_plain talk result a b heeds way ended failed wants = Plain.ended
    held_plain talk result a b heeds way wanting failed wants = absurd (wants refl)
    held_plain talk result a b heeds way (unanswered none) failed wants = absurd (failed refl)
    held_plain {X} talk result a b heeds way (heard {request = request} {hear = hear} {next = next} reply answer rest) failed wants =
        by (wants_or_not reply) (λ other. held_plain (hear reply) result next b (heeds.1 reply) (Leads.further way answer) rest failed wants)
      where
        by : (reply ≡ replies.OutOfMemory) ⊎ (reply ≢ replies.OutOfMemory) → (reply ≢ replies.OutOfMemory → Plain rows (hear reply) result) → Plain rows (asking request hear) result
        by (inl is) on = absurd (wants (held_wanting result next b (subst (λ t. Held answers t next result b) (ap hear is ∙ heeds.0) rest)))
        by (inr other) on = Plain.asked reply (steady a next request reply way answer other) (on other)

    pub got_plain : (path : PathName) (result : Result (List ℕ) ClientFault) (a b : S) → Leads answers start a → Held answers (get_talk path) a result b
        → result ≢ Err faults.Failed → result ≢ Err faults.OutOfMemory → Plain rows (get_talk path) result
    got_plain path result a b way held failed wants = held_plain (get_talk path) result a b (heeds_get path) way held failed wants
