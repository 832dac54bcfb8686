-- Worked examples of rights, as the definitions compute them.
use Rattle.std.proofs.Common.{◌≡◌, ℕ, Bool, true, false, List, [], ◌∷◌, refl, codes}
use Rattle.up_names.specs.declared.items.Item.{Item}
use Rattle.up_names.specs.declared.items.Item.TheVariants.{Everyone, Domain, User, Group}
use Rattle.up_names.specs.PathNames.{PathName}
use Rattle.up_rights.specs.declared.Right.{Right}
use Rattle.up_rights.specs.declared.Right.TheVariants.{Read, Write, List as ListRight, Delete}
use Rattle.up_rights.specs.RightSets.{no_rights, with_right, all_rights}
use Rattle.up_access.specs.declared.Rule.{Rule}
use Rattle.up_policy.specs.declared.load_answer.LoadAnswer.{LoadAnswer}
use Rattle.up_policy.specs.declared.load_answer.LoadAnswer.TheVariants.{Text, Missing, BadText, Failed}
use Rattle.up_policy.specs.Files.{Files, facts_of}
use Rattle.up_policy.specs.Governors.{governor}
use Rattle.up_policy.specs.Reached.{reached, needed, needed_by}
use Rattle.up_policy.specs.Verdicts.{grants, text_decides, without_text, right_test}

abbrev ann : List ℕ
ann = codes "ann@a.example"

abbrev bob : List ℕ
bob = codes "bob@b.example"

abbrev dan : List ℕ
dan = codes "dan@d.example"

-- paths of ann's tree
abbrev root : PathName
root = record { owner = ann; elements = [] }

abbrev in_root : List ℕ → PathName
in_root name = record { owner = ann; elements = name ∷ [] }

abbrev in_sub : List ℕ → PathName
in_sub name = record { owner = ann; elements = codes "sub" ∷ name ∷ [] }

-- a group of an owner
abbrev group : List ℕ → List ℕ → PathName
group owner name = record { owner = owner; elements = codes "Group" ∷ name ∷ [] }

abbrev reads : List Item → Rule
reads items = record { rights = with_right no_rights Read; items = items }

abbrev everything : List Item → Rule
everything items = record { rights = all_rights; items = items }

-- ann's tree with the rules of its root, and with the texts of her groups
abbrev tree_of : List Rule → List (PathName × List Item) → Files
tree_of rules groups = record { owner = ann; access = (root, rules) ∷ []; groups = groups }

abbrev asks : Files → List (PathName × LoadAnswer) → List ℕ → Right → PathName → Bool
asks files loaded user right path = right_test (facts_of files) (group ann (codes "a") ∷ group ann (codes "b") ∷ []) loaded user right path

-- `*@example.com` is every user of exactly that domain, suffixed users too
domain_is_exact :
    let answer = λ (user : List ℕ). asks (tree_of (reads (Domain (codes "example.com") ∷ []) ∷ []) []) [] user Read (in_root (codes "f")) in
    answer (codes "x@example.com") ∷ answer (codes "x+y@example.com") ∷ answer (codes "x@badexample.com") ∷ answer (codes "x@sub.example.com") ∷ []
    ≡ true ∷ true ∷ false ∷ false ∷ []
unfolding right_test without_text text_decides grants governor reached
domain_is_exact = refl

-- the longest prefix with an Access file governs, and the others say nothing
nearest_text_governs :
    let files : Files = record { owner = ann; access = (root, reads (User bob ∷ []) ∷ []) ∷ (in_root (codes "sub"), reads (User dan ∷ []) ∷ []) ∷ []; groups = [] } in
    asks files [] bob Read (in_root (codes "f")) ∷ asks files [] bob Read (in_sub (codes "f")) ∷ asks files [] dan Read (in_sub (codes "f")) ∷ asks files [] dan Read (in_root (codes "f"))
    ∷ asks files [] dan Read (in_root (codes "sub")) ∷ []
    ≡ true ∷ false ∷ true ∷ false ∷ true ∷ []
unfolding right_test without_text text_decides grants governor reached
nearest_text_governs = refl

-- groups that name each other, and one that names itself, add nobody but those whom they name
groups_in_circles :
    let a = group ann (codes "a") in
    let b = group ann (codes "b") in
    let circle = tree_of (reads (Group a ∷ []) ∷ []) ((a, Group b ∷ []) ∷ (b, Group a ∷ User dan ∷ []) ∷ []) in
    let itself = tree_of (reads (Group a ∷ []) ∷ []) ((a, Group a ∷ []) ∷ []) in
    asks circle [] dan Read root ∷ asks circle [] bob Read root ∷ asks itself [] dan Read root ∷ [] ≡ true ∷ false ∷ false ∷ []
unfolding right_test without_text text_decides grants governor reached
groups_in_circles = refl

-- a user with a suffix is another user; `all` is every user
suffixed_user_is_another :
    asks (tree_of (reads (User bob ∷ []) ∷ []) []) [] (codes "bob+phone@b.example") Read root
    ∷ asks (tree_of (reads (Everyone ∷ []) ∷ []) []) [] (codes "bob+phone@b.example") Read root ∷ [] ≡ false ∷ true ∷ []
unfolding right_test without_text text_decides grants governor reached
suffixed_user_is_another = refl

-- on an Access or a Group path write, create and delete are the owner's alone, whatever the text says
control_files_are_the_owners :
    let files = tree_of (everything (User bob ∷ []) ∷ []) [] in
    asks files [] bob Write (in_root (codes "f")) ∷ asks files [] bob Write (in_root (codes "Access")) ∷ asks files [] bob Delete (group ann (codes "a")) ∷ asks files [] bob Read (in_root (codes "Access"))
    ∷ asks files [] ann Write (in_root (codes "Access")) ∷ asks files [] ann Write (in_root (codes "f")) ∷ []
    ≡ true ∷ false ∷ false ∷ true ∷ true ∷ false ∷ []
unfolding right_test without_text text_decides grants governor reached
control_files_are_the_owners = refl

-- without a governor all is the owner's
without_governor :
    let files : Files = record { owner = ann; access = []; groups = [] } in
    asks files [] ann Delete (in_root (codes "f")) ∷ asks files [] bob Read (in_root (codes "f")) ∷ [] ≡ true ∷ false ∷ []
unfolding right_test without_text text_decides grants governor reached
without_governor = refl

-- a group of another owner grants by a text that was loaded, and by no other answer
loaded_text_alone_grants :
    let g = group dan (codes "g") in
    let answer = λ (loaded : LoadAnswer). asks (tree_of (reads (Group g ∷ []) ∷ []) []) ((g, loaded) ∷ []) bob Read root in
    answer (Text (Domain (codes "b.example") ∷ [])) ∷ answer Missing ∷ answer (BadText 1) ∷ answer Failed ∷ [] ≡ true ∷ false ∷ false ∷ false ∷ []
unfolding right_test without_text text_decides grants governor reached
loaded_text_alone_grants = refl

-- a group of the tree behind one of another owner, and the other way round
groups_of_both_owners :
    let a = group ann (codes "a") in
    let g = group dan (codes "g") in
    let files = tree_of (reads (Group g ∷ []) ∷ []) ((a, User bob ∷ []) ∷ []) in
    asks files ((g, Text (Group a ∷ [])) ∷ []) bob Read root ∷ asks files [] bob Read root ∷ [] ≡ true ∷ false ∷ []
unfolding right_test without_text text_decides grants governor reached
groups_of_both_owners = refl

-- in a snapshot tree the base user reads and lists, and nobody anything else, whatever Access files say
snapshot_trees :
    let files : Files = record { owner = codes "ann+snapshot@a.example"; access = (record { owner = codes "ann+snapshot@a.example"; elements = [] }, everything (User bob ∷ []) ∷ []) ∷ []; groups = [] } in
    let path : PathName = record { owner = codes "ann+snapshot@a.example"; elements = codes "2026" ∷ [] } in
    asks files [] ann Read path ∷ asks files [] ann ListRight path ∷ asks files [] ann Write path ∷ asks files [] bob Read path ∷ asks files [] (codes "ann+snapshot@a.example") Read path ∷ []
    ≡ true ∷ true ∷ false ∷ false ∷ false ∷ []
unfolding right_test without_text text_decides grants governor reached
snapshot_trees = refl

-- the needed groups: those of other owners, in order of first mention, behind loaded ones too
needed_in_order :
    let a = group ann (codes "a") in
    let f = group dan (codes "f") in
    let g = group dan (codes "g") in
    let h = group bob (codes "h") in
    let files = tree_of (reads (Group g ∷ Group a ∷ Group g ∷ []) ∷ reads (Group f ∷ []) ∷ []) ((a, Group h ∷ Group g ∷ []) ∷ []) in
    let names = λ (loaded : List (PathName × LoadAnswer)). needed (facts_of files) (a ∷ []) loaded (in_sub (codes "f")) in
    names [] ∷ names ((f, Failed) ∷ (g, Text (Group h ∷ Group (group bob (codes "i")) ∷ [])) ∷ []) ∷ [] ≡ (g ∷ f ∷ h ∷ []) ∷ (h ∷ group bob (codes "i") ∷ []) ∷ []
unfolding needed needed_by governor reached
needed_in_order = refl
