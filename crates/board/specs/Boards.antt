-- What a board holds: its job with its graph, its list and its plan.
use Rattle.std.specs.Prelude.{◌≡◌, ℕ, Bool, Option, Result, OnErr}
use Rattle.std.specs.Result.{result_err}
use Rattle.faults.specs.declared.Fault.{Fault}
use Rattle.graphs.specs.Graphs.{Graph}
use Rattle.prices.specs.Prices.{Prices}
use Rattle.plans.specs.declared.Placing.{Placing}
use Rattle.plans.specs.declared.Life.{Life}
use Rattle.plans.specs.Plans.{Plan, finish}
use Rattle.plans.specs.Calls.{Call, serves, disorder, crowding, life, clash, verdict, after}
use Rattle.sheet.specs.declared.Job.{Job}
use Rattle.sheet.specs.Jobs.{graph_of}
use Rattle.board.specs.declared.Board.{Board}
use Rattle.board.specs.Tables.{plan_of}

abbrev pub job_on : {L : Type 0} → Board L → Job
job_on b = b.job

abbrev pub graph_on : {L : Type 0} → Board L → Graph
graph_on b = graph_of b.job

abbrev pub list_on : {L : Type 0} → Board L → L
list_on b = b.list

abbrev pub plan_on : {L : Type 0} → Board L → Plan
plan_on b = plan_of b.tables

-- what the rules of placings say of a board's own operations, where its list has these prices

abbrev pub serves_on : {L : Type 0} → Board L → ℕ → ℕ → ℕ → Bool
serves_on b k n o = serves (graph_on b) k n o ((plan_on b).placed o)

abbrev pub finish_on : {L : Type 0} → (L → Prices) → Board L → ℕ → Placing → ℕ
finish_on prices b = finish (graph_on b) (prices (list_on b)) (plan_on b)

abbrev pub disorder_on : {L : Type 0} → (L → Prices) → Board L → ℕ → Placing → ℕ → Bool
disorder_on prices b o p e = disorder (graph_on b) (prices (list_on b)) (plan_on b) o p e ((plan_on b).placed e)

abbrev pub crowding_on : {L : Type 0} → (L → Prices) → Board L → ℕ → Placing → ℕ → Bool
crowding_on prices b o p e = crowding (graph_on b) (prices (list_on b)) (plan_on b) o p e ((plan_on b).placed e)

abbrev pub life_on : {L : Type 0} → (L → Prices) → Board L → ℕ → Option Life
life_on prices b o = life (graph_on b) (prices (list_on b)) (plan_on b) o ((plan_on b).placed o)

-- two lives share a step in a register, under a plan that may have a placing more than the board's own
abbrev pub clash_on : {L : Type 0} → (L → Prices) → Board L → Plan → ℕ → Bool
clash_on prices b pl = clash (graph_on b) (prices (list_on b)) pl

-- what a call does to a board whose list has these prices: it answers its verdict, the plan afterwards is that of the rules, the job and
-- the list stay, and a refusal leaves the whole board as it was
pub record Obeys {L : Type 0} (prices : L → Prices) (call : Call) (old new : Board L) (result : Result (Unit {0}) Fault) : Type 0 where
  pub answer : result_err result ≡ verdict (graph_on old) (prices (list_on old)) (plan_on old) call
  pub plan : plan_on new ≡ after (graph_on old) (prices (list_on old)) (plan_on old) call
  pub kept : (job_on new ≡ job_on old) × (list_on new ≡ list_on old)
  pub refused : OnErr result (new ≡ old)
