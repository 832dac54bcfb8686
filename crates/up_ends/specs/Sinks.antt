-- How the sinks of this crate are seen. This project's own.
use Rattle.std.specs.Prelude.{ℕ, List}
use Rattle.up_lists.specs.Calls.{CallPlan}

-- a writer of std, with its errors counted
pub record CountedWriter (W : Type 0) : Type 0 where
  pub writer : W
  pub faults : ℕ

-- a sink in memory: the bytes held, how many more it takes before it has to grow, and which of its calls fail
pub record MemOutput : Type 0 where
  pub held : List ℕ
  pub room : ℕ
  pub plan : CallPlan
