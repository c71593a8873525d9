use Rattle.std.proofs.Common.{inr, string_bytes}
use Rattle.graphs.proofs.Exits.{err_from_exit}
use Rattle.graphs.proofs.Scripts.{first_is, refusal_is}
use Rattle.orders.specs.Orders.{order_format}
use Rattle.orders.proofs.Decoding.{one_on, refused, at_end, one_more, last_line, none_left}
use Rattle.orders.proofs.answers.answer_requests.Goals as goal

pub returns-in_err-request : goal.returns-in_err-request
returns-in_err-request g c =
    let u = c.loop-request.request-iterator in
    let f = c.in_err-request.field-0.0 in
    let refusal = refusal_is order_format u c.next.new.self c.in-Some.request f c.in-Some.ensures.steps.1 c.in_err-request.was in
    rw (err_from_exit c.from_residual.result f c.from_residual.ensures.1)
    (inr (last_line (string_bytes c.loop-request.out) _ _ _ (refused g.L.PriceList.prices c.loop-request.board u f refusal) c.loop-request.invariant))

pub loop-request-preserved : goal.loop-request-preserved
loop-request-preserved g c =
    let a = c.in_ok-answer_request.ensures in
    let u = c.loop-request.request-iterator in
    let v = c.next.new.self in
    let r = c.in_ok-request.field-0 in
    let first = first_is order_format u v c.in-Some.request r c.in-Some.ensures.steps.1 c.in_ok-request.was in
    one_more (string_bytes c.loop-request.out) _ _ _ _ _ a.text (one_on g.L.PriceList.prices c.loop-request.board c.answer_request.new.board u v r a.board first) c.loop-request.invariant

pub returns : goal.returns
returns g c =
    none_left (string_bytes c.loop-request.out) _ _ (at_end g.L.PriceList.prices c.loop-request.board c.loop-request.request-iterator c.in-None.ensures.steps.0) c.loop-request.invariant
