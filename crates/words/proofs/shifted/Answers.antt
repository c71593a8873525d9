-- The shift is by 63 at most, and `Words` shows that this gives the quotient.
use Rattle.std.proofs.Common.{ap, ◌∙◌, min, w64}
use Rattle.std.proofs.lemmas.Int.{to_z-of_z}
use Rattle.std.specs.Int.{int_shr}
use Rattle.words.proofs.Words.{shift_code}
use Rattle.words.proofs.shifted.Goals as goal

pub returns : goal.returns
returns c =
    let v = c.args.v in
    to_z-of_z w64 c.unbounded_shr.result (record { sfits = c.unbounded_shr.type_inv }) ∙ c.unbounded_shr.ensures
    ∙ ap (λ z. int_shr z (min c.into.result 63)) (to_z-of_z w64 v c.ranges.v) ∙ ap (λ d. int_shr v (min d 63)) c.into.ensures
    ∙ shift_code v c.args.drop c.ranges.v
