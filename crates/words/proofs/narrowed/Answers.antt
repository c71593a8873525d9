-- No bits are 0, the low bits of z are its cut value by definition, and 64 bits or more are all of z.
use Rattle.std.proofs.Common.{◌^◌, sym, ap, ◌∙◌, arith, w64}
use Rattle.std.proofs.lemmas.Int.{to_z-of_z}
use Rattle.words.specs.Cut.{cut_to, floor_mod, signed_of}
use Rattle.words.proofs.Cuts.{cut_is, cut_none, cut_word}
use Rattle.words.proofs.narrowed.Goals as goal

pub returns-in-0 : goal.returns-in-0
returns-in-0 c v d e = sym (ap (cut_to v d) c.in-0.is ∙ cut_none v d)

pub returns-in-1-to-63 : goal.returns-in-1-to-63
returns-in-1-to-63 c v d e =
    let w = c.args.width in
    to_z-of_z w64 c.low_bits.result (record { sfits = c.low_bits.type_inv }) ∙ c.low_bits.ensures
    ∙ ap (λ i. signed_of w (floor_mod i (2 ^ w))) (to_z-of_z w64 c.args.z c.ranges.z) ∙ cut_is v c.args.z d w e

pub returns-in_default : goal.returns-in_default
returns-in_default c v d e = to_z-of_z w64 c.args.z c.ranges.z ∙ cut_word v c.args.z d c.args.width c.ranges.z (omega arith) e
