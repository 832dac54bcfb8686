use Rattle.std.proofs.Common.{◌≡◌, ◌≢◌, ℕ, not, Bool, true, false, nat_lt, if◌then◌else◌, List, length, Result, Ok, Err, refl}
use Rattle.up_names.specs.PathNames.{PathName, canonical, extended, is_name, joined}
use Rattle.up_names.specs.declared.fault.NameFault.{NameFault}
use Rattle.up_names.specs.declared.fault.NameFault.TheVariants as names
use Rattle.up_client.specs.declared.fault.ClientFault.{ClientFault}
use Rattle.up_client.specs.declared.fault.ClientFault.TheVariants as faults
use Rattle.up_client.specs.Links.{fault_of, short}
use Rattle.up_client.proofs.links.joined.Goals as goal

-- the tests of `joined` and of `short`, by what they answer
abbrev joins : Bool → Bool → ℕ → PathName → Result PathName NameFault
joins named long n next = if not named then Err (names.Element 0) else if long then Err (names.TooLong n) else Ok next

abbrev fits : Bool → PathName → Result PathName ClientFault
fits long next = if long then Err faults.TooLong else Ok next

ok_fits : (named long : Bool) (n : ℕ) (next longer : PathName) → named ≡ true → joins named long n next ≡ Ok longer → fits long next ≡ Ok longer
ok_fits false long n next longer is result = absurd (cc)
ok_fits true true n next longer is result = absurd (cc)
ok_fits true false n next longer is result = cc

err_fits : (named long : Bool) (n : ℕ) (next : PathName) (fault : NameFault) → named ≡ true → joins named long n next ≡ Err fault → fits long next ≡ Err faults.TooLong
err_fits false long n next fault is result = absurd (cc)
err_fits true true n next fault is result = refl
err_fits true false n next fault is result = absurd (cc)

ok_short : (path : PathName) (element : List ℕ) (longer : PathName) → is_name element ≡ true → joined path element ≡ Ok longer → short (extended path element) ≡ Ok longer
unfolding joined
ok_short path element longer is result =
    ok_fits (is_name element) (nat_lt 4096 (length (canonical (extended path element)))) (length (canonical (extended path element))) (extended path element) longer is result

err_short : (path : PathName) (element : List ℕ) (fault : NameFault) → is_name element ≡ true → joined path element ≡ Err fault → short (extended path element) ≡ Err faults.TooLong
unfolding joined
err_short path element fault is result =
    err_fits (is_name element) (nat_lt 4096 (length (canonical (extended path element)))) (length (canonical (extended path element))) (extended path element) fault is result

meant_short : (path : PathName) (element : List ℕ) (fault : NameFault) → is_name element ≡ true → (fault ≢ names.OutOfMemory → joined path element ≡ Err fault)
    → fault_of fault ≢ faults.OutOfMemory → short (extended path element) ≡ Err (fault_of fault)
meant_short path element names.OutOfMemory is given other = absurd (other refl)
meant_short path element fault is given other = err_short path element fault is (given (λ e. cc))

pub returns-in-Ok : goal.returns-in-Ok
returns-in-Ok c = ok_short c.args.path.now c.args.element.now c.in-Ok.longer c.requires c.in-Ok.ensures

pub returns-in-Err : goal.returns-in-Err
returns-in-Err c = rw c.fault_of.ensures (meant_short c.args.path.now c.args.element.now c.in-Err.fault c.requires c.in-Err.ensures)
