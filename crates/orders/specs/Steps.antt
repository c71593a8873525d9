-- Answering an order in the code's terms: what its parts promise one another.
use Rattle.std.specs.Prelude.{◌≡◌, ℕ, ◌⊎◌, List, ◌++◌, Ok, Err, codes, Result}
use Rattle.faults.specs.declared.Fault.{Fault}
use Rattle.faults.specs.declared.Fault.TheVariants.{OutOfMemory}
use Rattle.faults.specs.Faults.{line_of}
use Rattle.graphs.specs.Scripts.{Unread}
use Rattle.prices.specs.Prices.{Prices}
use Rattle.board.specs.declared.Board.{Board}
use Rattle.board.specs.Boards.{job_on, graph_on, list_on, plan_on}
use Rattle.orders.specs.declared.requests.Request.{Request}
use Rattle.orders.specs.declared.replies.Reply.{Reply}
use Rattle.orders.specs.declared.replies.Reply.TheVariants.{Taken, Charged}
use Rattle.orders.specs.Orders.{answer_to, plan_then, answers_from, line, charge_text}

-- a reply as it is written
abbrev pub reply_text : Reply → List ℕ
reply_text Taken = codes "ok"
reply_text (Charged units registers) = charge_text (units, registers)

-- the line that tells a reply or a refusal
abbrev pub told : Result Reply Fault → List ℕ
told (Ok r) = reply_text r
told (Err f) = line_of f

-- what the rules answer a request to a board whose list has these prices
abbrev pub answer_on : {L : Type 0} → (L → Prices) → Board L → Request → List ℕ
answer_on prices b r = answer_to (graph_on b) (prices (list_on b)) (plan_on b) r

-- the lines that answer all requests that are left
abbrev pub answers_on : {L : Type 0} → (L → Prices) → Board L → Unread → List ℕ
answers_on prices b u = answers_from (graph_on b) (prices (list_on b)) (plan_on b) u.bytes u.at

-- what a request does to such a board: the plan afterwards is that of the rules, and the job and the list stay
pub record Follows {L : Type 0} (prices : L → Prices) (request : Request) (old new : Board L) : Type 0 where
  pub plan : plan_on new ≡ plan_then (graph_on old) (prices (list_on old)) (plan_on old) request
  pub job : job_on new ≡ job_on old
  pub list : list_on new ≡ list_on old

-- text was written behind what there was, all of it or all but the line of the refusal that ends it
abbrev pub Writes : List ℕ → List ℕ → List ℕ → Result (Unit {0}) Fault → Type 0
Writes text old new (Ok x) = new ≡ old ++ text
Writes text old new (Err f) = (f ≡ OutOfMemory) ⊎ (new ++ line (line_of f) ≡ old ++ text)
