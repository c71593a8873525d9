-- One request on: the bytes behind its operands decide the lines that follow its own.
use Rattle.std.proofs.Common.{◌≡◌, ℕ, ◌+◌, ◌-◌, List, [], ◌++◌, Some, sym, ap, ◌∙◌, append_assoc, append-nil, arith}
use Rattle.faults.specs.declared.Fault.{Fault}
use Rattle.faults.specs.declared.Fault.TheVariants.{UnknownCommand, CutShort}
use Rattle.faults.specs.Faults.{line_of}
use Rattle.graphs.specs.Scripts.{Script, ends, unknown, short, next, Unread, IsAtEnd, script_of, refusal, IsFirst}
use Rattle.graphs.proofs.Scripts.{ends_at}
use Rattle.prices.specs.Prices.{Prices}
use Rattle.sheet.specs.Jobs.{graph_of}
use Rattle.board.specs.declared.Board.{Board}
use Rattle.board.specs.Boards.{graph_on, list_on, plan_on}
use Rattle.orders.specs.declared.requests.Request.{Request}
use Rattle.orders.specs.Orders.{order_format, plan_then, line, answers, answers_from}
use Rattle.orders.specs.Steps.{answer_on, answers_on, Follows}

-- a board whose list has these prices
module _ {L : Type 0} (prices : L → Prices) (b : Board L) where
  -- the request r stands next in the bytes u, and behind it the bytes v; it leaves the board d
  pub one_on : (d : Board L) (u v : Unread) (r : Request) → Follows prices r b d → IsFirst order_format u r v → answers_on prices b u ≡ line (answer_on prices b r) ++ answers_on prices d v
  unfolding answers
  one_on d u v r after first =
      let k = first.further in
      let q : u.at + (v.at - u.at) ≡ v.at = omega arith in
      let G = graph_on b in
      let P = prices (list_on b) in
      let pl = plan_on b in
      ap (answers G P pl u.at) first.said
      ∙ ap (λ x. line (answer_on prices b r) ++ answers G P (plan_then G P pl r) x (script_of order_format v)) q
      ∙ sym (λ i. line (answer_on prices b r) ++ answers_from (graph_of (after.job i)) (prices (after.list i)) (after.plan i) v.bytes v.at)

  told_refusal : (at : ℕ) (s : Script Request) (f : Fault) → refusal at s ≡ Some f → answers (graph_on b) (prices (list_on b)) (plan_on b) at s ≡ line (line_of f)
  unfolding answers
  told_refusal at ends f e = cc
  told_refusal at unknown f e = let k : UnknownCommand at ≡ f = cc in ap (λ x. line (line_of x)) k
  told_refusal at short f e = let k : CutShort at ≡ f = cc in ap (λ x. line (line_of x)) k
  told_refusal at (next r n rest) f e = cc

  -- the request that stands next cannot be read
  pub refused : (u : Unread) (f : Fault) → refusal u.at (script_of order_format u) ≡ Some f → answers_on prices b u ≡ line (line_of f)
  refused u f e = told_refusal u.at (script_of order_format u) f e

  -- at the end no line is left
  pub at_end : (u : Unread) → IsAtEnd u → answers_on prices b u ≡ []
  unfolding answers
  at_end u h = ap (answers (graph_on b) (prices (list_on b)) (plan_on b) u.at) (ends_at order_format u h)

-- one line more is written, and one line less is left
pub one_more : (old new said left whole all : List ℕ) → new ≡ old ++ said → whole ≡ said ++ left → old ++ whole ≡ all → new ++ left ≡ all
one_more old new said left whole all n w e = ap (λ x. x ++ left) n ∙ append_assoc old said left ∙ ap (λ x. old ++ x) (sym w) ∙ e

-- the line that is left is the last, or no line is
pub last_line : (new said left all : List ℕ) → left ≡ said → new ++ left ≡ all → new ++ said ≡ all
last_line new said left all l e = ap (λ x. new ++ x) (sym l) ∙ e

pub none_left : (new left all : List ℕ) → left ≡ [] → new ++ left ≡ all → new ≡ all
none_left new left all l e = sym (append-nil new) ∙ last_line new [] left all l e
