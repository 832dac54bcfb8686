-- A host is opened by the name of a plan, or there was no memory to read it.
use Rattle.std.proofs.Common.{◌≡◌, Bool, true, false, List, inl, Some, None, refl, subst}
use Rattle.std.specs.Prelude.{if◌then◌else◌}
use Rattle.up_disk.specs.Spare.{Spared}
use Rattle.up_disk.specs.declared.disk.Disk.{Ghosts}
use Rattle.up_host.specs.Alone.{HostState}
use Rattle.up_host.specs.Opens.{OpensHost, RefusesHost}
use Rattle.up_journal.specs.declared.fault.OpenWhy.TheVariants as why
use Rattle.up_journal.specs.declared.limits.Limits.{Limits}
use Rattle.up_names.specs.Texts.{Text, UserName}
use Rattle.up_sign.specs.HostNames.{host_named, is_host_name}

name_is : (word name : Text) → Some name ≡ host_named word → name ≡ word
name_is word name is = by (is_host_name word) is
  where
    by : (b : Bool) → Some name ≡ (if b then Some word else None) → name ≡ word
    by true same = cc
    by false same = absurd (cc)

pub has_name : (word : Text) → is_host_name word ≡ true → None ≡ host_named word → ⊥
has_name word good is = by (is_host_name word) good is
  where
    by : (b : Bool) → b ≡ true → None ≡ (if b then Some word else None) → ⊥
    by true same bad = absurd (cc)
    by false same bad = absurd (cc)

pub opens_named : {D : Type 0} {disks : Ghosts D} {limits : Limits} {word name : Text} {operator : UserName} {owners : List UserName} {given : List D} {host : HostState D} → Some name ≡ host_named word → OpensHost disks limits name operator owners given host → OpensHost disks limits word operator owners given host
opens_named {disks = disks} {limits = limits} {word = word} {name = name} {operator = operator} {owners = owners} {given = given} {host = host} is opens =
    subst (λ called. OpensHost disks limits called operator owners given host) (name_is word name is) opens

pub opens_none : {D : Type 0} (disks : Ghosts D) (limits : Limits) (owners : List UserName) (given : Spared D) → RefusesHost disks limits owners given.disks (record { disks = given; which = 0; why = why.OutOfMemory })
opens_none disks limits owners given = inl (record { handed = refl; why_is = refl; which_is = refl })

pub ruleset opens = (has_name, opens_named, opens_none)
