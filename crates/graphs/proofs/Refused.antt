-- A refusal lies at the position of a command, or at the end: never past the length.
use Rattle.std.proofs.Common.{◌≡◌, ℕ, zero, suc, ◌+◌, ◌≤◌, Bool, true, false, cond, List, [], ◌∷◌, length, Some, None, Ok, Err, Option, Result, sym, refl, ap, ◌∙◌, subst, inl, inr, arith}
use Rattle.std.proofs.lemmas.Bool.{cases_lt}
use Rattle.faults.specs.declared.Fault.{Fault}
use Rattle.faults.specs.declared.Fault.TheVariants.{UnknownCommand, CutShort, OutOfOrder, TooMany, OutOfRange, NamesNothing}
use Rattle.graphs.specs.Graphs.{Graph}
use Rattle.graphs.specs.Scripts.{script, begun}
use Rattle.graphs.specs.Commands.{operands, command_of, sheet_format}
use Rattle.graphs.specs.Reading.{Sofar, nothing_read, in_order, has_room, in_range, names_earlier, cause, after, whole_graph, continue, judge, read}
use Rattle.graphs.specs.Law.{PlacedFault}
use Rattle.graphs.proofs.Scripts.{begun_short, begun_whole}

abbrev refusal : Fault → Result Graph Fault
refusal f = Err f

module _ (bytes at : ℕ) (inside : at ≤ bytes) where
  unknown_placed : PlacedFault bytes (UnknownCommand at)
  unknown_placed = record { least = omega arith; most = omega arith; position = at; there = refl; inside = inside }

  short_placed : PlacedFault bytes (CutShort at)
  short_placed = record { least = omega arith; most = omega arith; position = at; there = refl; inside = inside }

  order_placed : PlacedFault bytes (OutOfOrder at)
  order_placed = record { least = omega arith; most = omega arith; position = at; there = refl; inside = inside }

  late_placed : (t : Bool) (f g : Fault) → PlacedFault bytes g → refusal (cond t (OutOfOrder at) g) ≡ refusal f → PlacedFault bytes f
  late_placed true f g h e = let i : OutOfOrder at ≡ f = cc in subst (PlacedFault bytes) i order_placed
  late_placed false f g h e = let i : g ≡ f = cc in subst (PlacedFault bytes) i h

  cause_placed : (x y z w : Bool) (f : Fault)
      → cond x (cond y (cond z (cond w None (Some (NamesNothing at))) (Some (OutOfRange at))) (Some (TooMany at))) (Some (OutOfOrder at)) ≡ Some f → PlacedFault bytes f
  cause_placed false y z w f e = let i : OutOfOrder at ≡ f = cc in subst (PlacedFault bytes) i order_placed
  cause_placed true false z w f e = let i : TooMany at ≡ f = cc in subst (PlacedFault bytes) i (record { least = omega arith; most = omega arith; position = at; there = refl; inside = inside })
  cause_placed true true false w f e = let i : OutOfRange at ≡ f = cc in subst (PlacedFault bytes) i (record { least = omega arith; most = omega arith; position = at; there = refl; inside = inside })
  cause_placed true true true false f e = let i : NamesNothing at ≡ f = cc in subst (PlacedFault bytes) i (record { least = omega arith; most = omega arith; position = at; there = refl; inside = inside })
  cause_placed true true true true f e = let z : ◌≡◌ {A = ℕ} 0 1 = cc in absurd (omega arith)

-- at the end of the bytes
at_end : (bytes at : ℕ) → at ≤ bytes → (t : Bool) (G : Graph) (f : Fault) → cond t (Ok G) (Err (CutShort at)) ≡ Err f → PlacedFault bytes f
at_end bytes at h true G f e = let z : ◌≡◌ {A = ℕ} 0 1 = cc in absurd (omega arith)
at_end bytes at h false G f e = let i : CutShort at ≡ f = cc in subst (PlacedFault bytes) i (short_placed bytes at h)

-- behind the first k of bs, which end with the sheet
abbrev PlacedFrom : ℕ → Fault → List ℕ → Type 0
PlacedFrom bytes f bs = (k : ℕ) (d : Sofar) (at : ℕ) → k ≤ length bs → at + length bs ≤ bytes + k → judge d at (script sheet_format k bs) ≡ Err f → PlacedFault bytes f

module _ (bytes : ℕ) (f : Fault) (b : ℕ) (bs : List ℕ) (later : PlacedFrom bytes f bs) (d : Sofar) (at : ℕ) (fits : at + length (b ∷ bs) ≤ bytes) where
  inside : at ≤ bytes
  inside = omega arith

  taken : (n : ℕ) → n ≤ length bs → (o : Option Fault) → cause d at (command_of b bs) ≡ o → continue o (judge (after d (command_of b bs)) (at + suc n) (script sheet_format n bs)) ≡ Err f → PlacedFault bytes f
  taken n h (Some g) k e =
      let c = command_of b bs in
      let i : g ≡ f = cc in
      cause_placed bytes at inside (in_order d c) (has_room d c) (in_range c) (names_earlier d c) f (k ∙ ap Some i)
  taken n h None k e = later n (after d (command_of b bs)) (at + suc n) h (omega arith) e

  counted : (o : Option ℕ) → judge d at (begun sheet_format b bs o (λ n. script sheet_format n bs)) ≡ Err f → PlacedFault bytes f
  unfolding judge
  counted None e = late_placed bytes at inside d.ended f (UnknownCommand at) (unknown_placed bytes at inside) e
  counted (Some n) e =
      elim (cases_lt (length bs) n) [
        | inl h ↦
            late_placed bytes at inside d.ended f (CutShort at) (short_placed bytes at inside)
            (sym (ap (judge d at) (begun_short sheet_format b bs n (Some n) (λ n. script sheet_format n bs) refl h)) ∙ e)
        | inr h ↦
            taken n h (cause d at (command_of b bs)) refl
            (sym (ap (judge d at) (begun_whole sheet_format b bs n (Some n) (λ n. script sheet_format n bs) refl h)) ∙ e)
      ]

placed_from : (bytes : ℕ) (f : Fault) (bs : List ℕ) → PlacedFrom bytes f bs
unfolding script judge
placed_from bytes f [] zero d at h l e = at_end bytes at (omega arith) d.ended (whole_graph d) f e
placed_from bytes f [] (suc k) d at h l e = absurd (omega arith)
placed_from bytes f (b ∷ bs) zero d at h l e = counted bytes f b bs (placed_from bytes f bs) d at (omega arith) (operands b) e
placed_from bytes f (b ∷ bs) (suc k) d at h l e = placed_from bytes f bs k d at (omega arith) (omega arith) e

pub placed : (bs : List ℕ) (f : Fault) → read bs ≡ Err f → PlacedFault (length bs) f
unfolding read
placed bs f e = placed_from (length bs) f bs 0 nothing_read 0 (omega arith) (omega arith) e
