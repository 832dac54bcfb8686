-- Worked examples of the definitions.
use Rattle.std.proofs.Common.{◌≡◌, [], ◌∷◌, refl}
use Rattle.std.specs.Prelude.{codes}
use Rattle.up_bytes.specs.Num.{num}
use Rattle.up_entry.specs.declared.records.Rec.TheVariants.{Delete}
use Rattle.up_entry.specs.Spelling.{rec}

-- the record that deletes ann@a.example/f
delete_f : rec (Delete (record { owner = codes "ann@a.example"; elements = codes "f" ∷ [] })) ≡ 0x02 ∷ 0x0F ∷ 0x61 ∷ 0x6E ∷ 0x6E ∷ 0x40 ∷ 0x61 ∷ 0x2E ∷ 0x65 ∷ 0x78 ∷ 0x61 ∷ 0x6D ∷ 0x70 ∷ 0x6C ∷ 0x65 ∷ 0x2F ∷ 0x66 ∷ []
unfolding rec num
delete_f = refl
