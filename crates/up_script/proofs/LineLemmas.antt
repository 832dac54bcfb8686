-- What is known of a line by what it says.
use Rattle.std.proofs.Common.{◌≡◌, ◌≤◌, ℕ, Bool, true, false, List, [], ◌∷◌, length, Option, Some, None, refl, sym, ap, subst, ◌∙◌, arith}
use Rattle.std.proofs.lemmas.Bool.{and_parts, leb-true}
use Rattle.std.specs.List.{slice_split}
use Rattle.std.specs.Option.{option_and_then}
use Rattle.std.specs.Prelude.{codes, if◌then◌else◌, is_some, nat_le}
use Rattle.std.specs.Str.{bytes_eq}
use Rattle.up_names.specs.Texts.{Text, UserName}
use Rattle.up_text.specs.Lines.{is_silent, line_words}
use Rattle.up_text.specs.Lists.{is_comma, is_no_list}
use Rattle.up_text.specs.Numbers.{num_of}
use Rattle.up_text.specs.Requests.{client_line_of, request_of}
use Rattle.up_text.specs.Words.{decoded}
use Rattle.up_text.specs.declared.requests.ClientLine.{ClientLine}
use Rattle.up_command.specs.Words.{is_key, key_named, user_named}
use Rattle.up_sign.specs.HostNames.{host_named}
use Rattle.up_script_lines.specs.ScriptLines.{are_owners, asked_line, enrol_line, host_line, if_owners, line_of, open_line, session_line, session_named, trees_named, users_named, words_line}
use Rattle.up_script_lines.specs.declared.script_lines.ScriptLine.{ScriptLine}
use Rattle.up_script_lines.specs.declared.script_lines.ScriptLine.TheVariants as lines

-- of two steps that give something together, each gives something
pub record Steps {X Y : Type 0} (first : Option X) (next : X → Option Y) (y : Y) : Type 0 where
  pub x : X
  pub gave : first ≡ Some x
  pub after : next x ≡ Some y

pub steps : {X Y : Type 0} (first : Option X) (next : X → Option Y) (y : Y) → option_and_then next first ≡ Some y → Steps first next y
steps None next y h = absurd (cc)
steps (Some x) next y h = record { x = x; gave = refl; after = h }

-- ---- what is kept of a line

-- the owners of a host are few and different, a key has its bounds, a number is one of the hundred, and words ask something
abbrev pub Kept : ScriptLine → Type 0
Kept (lines.Host host) = length host.owners ≤ 8
Kept other = Unit {0}

-- all that is kept of a line that is done
abbrev pub Good : ScriptLine → Type 0
Good lines.Silent = Unit {0}
Good (lines.Host host) = are_owners host.owners ≡ true
Good (lines.Enrol user) = is_key user.key ≡ true
Good (lines.Open session) = session.number ≤ 99
Good (lines.Request number words) = is_some (request_of [] words) ≡ true
Good (lines.Client number call) = Unit {0}

owners_good : (owners users : List UserName) → if_owners users ≡ Some owners → are_owners owners ≡ true
owners_good owners users h = by (are_owners users) refl h
  where
    by : (b : Bool) → are_owners users ≡ b → (if b then Some users else None) ≡ Some owners → are_owners owners ≡ true
    by true is given = let e : users ≡ owners = cc in ap are_owners (sym e) ∙ is
    by false is given = absurd (cc)

trees_good : (word : Text) (owners : List UserName) → trees_named word ≡ Some owners → are_owners owners ≡ true
unfolding trees_named
trees_good word owners h = by (is_no_list word) h
  where
    by : (b : Bool) → (if b then Some [] else option_and_then if_owners (users_named (slice_split is_comma word))) ≡ Some owners → are_owners owners ≡ true
    by true given = let e : [] ≡ owners = cc in ap are_owners (sym e)
    by false given = let s = steps (users_named (slice_split is_comma word)) if_owners owners given in owners_good owners s.x s.after

host_good : (words : List Text) (what : ScriptLine) → host_line words ≡ Some what → Good what
unfolding host_line
host_good (name ∷ operator ∷ trees ∷ []) what h =
    let a = steps (host_named name) _ what h in
    let b = steps (user_named operator) _ what a.after in
    let c = steps (trees_named trees) _ what b.after in
    let e : lines.Host (record { name = a.x; operator = b.x; owners = c.x }) ≡ what = let k = c.after in cc in
    subst Good e (trees_good trees c.x c.gave)
host_good [] what h = absurd (cc)
host_good (a ∷ []) what h = absurd (cc)
host_good (a ∷ b ∷ []) what h = absurd (cc)
host_good (a ∷ b ∷ c ∷ d ∷ more) what h = absurd (cc)

key_good : (word key : Text) → key_named word ≡ Some key → is_key key ≡ true
unfolding key_named
key_good word key h = let s = steps (decoded word) _ key h in by s.x (is_key s.x) refl s.after
  where
    by : (text : Text) (b : Bool) → is_key text ≡ b → (if b then Some text else None) ≡ Some key → is_key key ≡ true
    by text true is given = let e : text ≡ key = cc in ap is_key (sym e) ∙ is
    by text false is given = absurd (cc)

enrol_good : (words : List Text) (what : ScriptLine) → enrol_line words ≡ Some what → Good what
unfolding enrol_line
enrol_good (name ∷ user ∷ key ∷ []) what h =
    let a = steps (host_named name) _ what h in
    let b = steps (user_named user) _ what a.after in
    let c = steps (key_named key) _ what b.after in
    let e : lines.Enrol (record { host = a.x; user = b.x; key = c.x }) ≡ what = let k = c.after in cc in
    subst Good e (key_good key c.x c.gave)
enrol_good [] what h = absurd (cc)
enrol_good (a ∷ []) what h = absurd (cc)
enrol_good (a ∷ b ∷ []) what h = absurd (cc)
enrol_good (a ∷ b ∷ c ∷ d ∷ more) what h = absurd (cc)

number_good : (word : Text) (number : ℕ) → session_named word ≡ Some number → number ≤ 99
unfolding session_named
number_good word number h = let s = steps (num_of word) _ number h in by s.x (nat_le s.x 99) refl s.after
  where
    by : (n : ℕ) (b : Bool) → nat_le n 99 ≡ b → (if b then Some n else None) ≡ Some number → number ≤ 99
    by n true is given = let e : n ≡ number = cc in let k : n ≤ 99 = grind (arith, is) in omega (arith, e, k)
    by n false is given = absurd (cc)

open_good : (words : List Text) (what : ScriptLine) → open_line words ≡ Some what → Good what
unfolding open_line
open_good (number ∷ name ∷ user ∷ proof ∷ []) what h =
    let a = steps (session_named number) _ what h in
    let b = steps (host_named name) _ what a.after in
    let c = steps (user_named user) _ what b.after in
    let d = steps (decoded proof) _ what c.after in
    let e : lines.Open (record { number = a.x; host = b.x; user = c.x; proof = d.x }) ≡ what = let k = d.after in cc in
    subst Good e (number_good number a.x a.gave)
open_good [] what h = absurd (cc)
open_good (a ∷ []) what h = absurd (cc)
open_good (a ∷ b ∷ []) what h = absurd (cc)
open_good (a ∷ b ∷ c ∷ []) what h = absurd (cc)
open_good (a ∷ b ∷ c ∷ d ∷ e ∷ more) what h = absurd (cc)

asked_good : (number : ℕ) (words : List Text) (call : Option ClientLine) (what : ScriptLine) → asked_line number words call ≡ Some what → Good what
asked_good number words (Some call) what h = let e : lines.Client number call ≡ what = cc in subst Good e tt
asked_good number words None what h = by (is_some (request_of [] words)) refl h
  where
    by : (b : Bool) → is_some (request_of [] words) ≡ b → (if b then Some (lines.Request number words) else None) ≡ Some what → Good what
    by true is given = let e : lines.Request number words ≡ what = cc in subst Good e is
    by false is given = absurd (cc)

session_good : (first : Text) (words : List Text) (what : ScriptLine) → session_line first words ≡ Some what → Good what
unfolding session_line
session_good first words what h = let s = steps (session_named first) _ what h in asked_good s.x words (client_line_of words) what s.after

words_good : (words : List Text) (what : ScriptLine) → words_line words ≡ Some what → Good what
unfolding words_line
words_good [] what h = absurd (cc)
words_good (first ∷ words) what h = by (bytes_eq first (codes "host")) h
  where
    last : (b : Bool) → (if b then open_line words else session_line first words) ≡ Some what → Good what
    last true given = open_good words what given
    last false given = session_good first words what given

    next : (b : Bool) → (if b then enrol_line words else (if bytes_eq first (codes "open") then open_line words else session_line first words)) ≡ Some what → Good what
    next true given = enrol_good words what given
    next false given = last (bytes_eq first (codes "open")) given

    by : (b : Bool) → (if b then host_line words else (if bytes_eq first (codes "enrol") then enrol_line words else (if bytes_eq first (codes "open") then open_line words else session_line first words))) ≡ Some what → Good what
    by true given = host_good words what given
    by false given = next (bytes_eq first (codes "enrol")) given

-- what a line says is good
pub good_of : (line : Text) (what : ScriptLine) → line_of line ≡ Some what → Good what
unfolding line_of
good_of line what h = by (is_silent line) h
  where
    by : (b : Bool) → (if b then Some lines.Silent else words_line (line_words line)) ≡ Some what → Good what
    by true given = let e : lines.Silent ≡ what = cc in subst Good e tt
    by false given = words_good (line_words line) what given

few_of : (what : ScriptLine) → Good what → Kept what
few_of (lines.Host host) good = leb-true (length host.owners) 8 (and_parts (nat_le (length host.owners) 8) _ (and_parts _ _ good).0).0
few_of lines.Silent good = tt
few_of (lines.Enrol user) good = tt
few_of (lines.Open session) good = tt
few_of (lines.Request number words) good = tt
few_of (lines.Client number call) good = tt

pub kept_of : (line : Text) (what : ScriptLine) → line_of line ≡ Some what → Kept what
kept_of line what h = few_of what (good_of line what h)
