-- What is written so far, and what the bytes that are left say, are the whole answer.
use Rattle.std.proofs.Common.{◌≡◌, ◌++◌, string_bytes}
use Rattle.orders.specs.Steps.{answers_on}
use Rattle.orders.proofs.answers.answer_requests.Given as goal

abbrev pub invariant-loop-request : goal.invariant-loop-request
invariant-loop-request g l =
    string_bytes l.out ++ answers_on g.L.PriceList.prices l.board l.request-iterator ≡ string_bytes l.initial.out ++ answers_on g.L.PriceList.prices l.initial.board l.fn.requests
