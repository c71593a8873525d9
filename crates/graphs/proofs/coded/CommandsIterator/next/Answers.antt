use Rattle.std.proofs.Common.{◌≡◌, ◌+◌, ◌∷◌, length, drop, Some, Ok, Err, sym, refl, ◌∙◌, subst, arith}
use Rattle.std.proofs.lemmas.List.{take_rest}
use Rattle.graphs.specs.Scripts.{Reads}
use Rattle.graphs.proofs.Scripts.{told_first, told_refusal}
use Rattle.graphs.proofs.coded.CommandsIterator.next.Goals as goal

pub returns-in-Ok-clause-steps : goal.returns-in-Ok-clause-steps
returns-in-Ok-clause-steps g c =
    let s = c.self.inside in
    let b = c.in_ok-byte.byte.now in
    let behind = c.in_ok-byte.behind.now in
    let stands : drop s.at s.bytes.now ≡ b ∷ behind = sym (take_rest s.bytes.now s.at) ∙ sym c.in_ok-get.ensures.lookup.0.2 ∙ c.in_ok-byte.ensures.cases.0 in
    let e = c.in-Ok.ensures in
    subst (λ u. Reads g.C.Coded.format u (Some (s.at, Ok c.in-Ok.command)) (record { bytes = s.bytes.now; at = s.at + 1 + c.in-Ok.count })) c.self.view_is
    (refl, told_first g.C.Coded.format s.bytes.now s.at b behind stands c.in-Ok.count c.in-Ok.command e.0 e.1 e.2)

pub returns-in-Err-clause-steps : goal.returns-in-Err-clause-steps
returns-in-Err-clause-steps g c =
    let s = c.self.inside in
    let b = c.in_ok-byte.byte.now in
    let behind = c.in_ok-byte.behind.now in
    let stands : drop s.at s.bytes.now ≡ b ∷ behind = sym (take_rest s.bytes.now s.at) ∙ sym c.in_ok-get.ensures.lookup.0.2 ∙ c.in_ok-byte.ensures.cases.0 in
    subst (λ u. Reads g.C.Coded.format u (Some (s.at, Err c.in-Err.fault)) (record { bytes = s.bytes.now; at = length s.bytes.now })) c.self.view_is
    (refl, (told_refusal g.C.Coded.format s.bytes.now s.at b behind stands c.in-Err.fault c.in-Err.ensures, omega arith))
