-- The other hosts of a script, which are asked for groups before the peers. This project's own.
use Rattle.std.specs.Prelude.{◌≡◌, ℕ, suc, Bool, is_some, List, ◌++◌, take, drop, Option, Some, None, IfSome}
use Rattle.std.specs.List.{find}
use Rattle.up_host.specs.Alone.{HostState, tree_for}
use Rattle.up_host.specs.Loads.{load_of}
use Rattle.up_host.specs.Peers.{group_text_by}
use Rattle.up_names.specs.Texts.{UserName}
use Rattle.up_peer.specs.Loading.{GroupQuestion}
use Rattle.up_peer.specs.declared.loader.Loader.{Ghosts}
use Rattle.up_policy.specs.declared.load_answer.LoadAnswer.{LoadAnswer}

-- all hosts but the one at a place, in order
abbrev pub others : {X : Type 0} → ℕ → List X → List X
others place hosts = take place hosts ++ drop (suc place) hosts

-- whether a host has the tree of an owner
abbrev pub has_tree : {D : Type 0} → UserName → HostState D → Bool
has_tree owner host = is_some (tree_for host.trees owner)

-- A question for a group: a host that has the tree answers whoever asks, and of that answer the loaded text is made, for which memory
-- may be wanting; where no host has it, who stands behind them is asked.
abbrev pub LoadsFirst : {D P : Type 0} → Ghosts P → Option (HostState D) → P → GroupQuestion → Option LoadAnswer → P → Type 0
LoadsFirst loader (Some host) old question answer new =
    (new ≡ old)
    × IfSome answer (λ (loaded : LoadAnswer). loaded ≡ load_of question.name.owner (group_text_by host.trees question.asker question.name))
LoadsFirst loader None old question answer new = loader.loads old question answer new

-- what stands behind a host as its loader: for a group the first of the other hosts that has the owner's tree, and else the peers; for a
-- block the peers alone
abbrev pub behind : {D P : Type 0} → Ghosts P → List (HostState D) → Ghosts P
behind loader hosts = record {
  loads = λ old question answer new. LoadsFirst loader (find (has_tree question.name.owner) hosts) old question answer new;
  fetches = loader.fetches;
  faults = loader.faults;
  tied = loader.tied;
}
