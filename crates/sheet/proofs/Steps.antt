-- One command of a sheet, as the code takes it: what the callees promise, put together.
use Rattle.std.proofs.Common.{◌≡◌, ℕ, ◌+◌, ◌-◌, true, false, ◌⊎◌, List, drop, Some, None, Ok, Err, Option, Result, sym, refl, ap, ◌∙◌, ap₂, inl, inr, arith}
use Rattle.std.proofs.lemmas.Bool.{and_left, not_from_true, cond-true, cond-false}
use Rattle.faults.specs.declared.Fault.{Fault}
use Rattle.faults.specs.declared.Fault.TheVariants.{UnknownCommand, CutShort, OutOfOrder, OutOfMemory}
use Rattle.graphs.specs.declared.Command.{Command}
use Rattle.graphs.specs.declared.Command.TheVariants as command
use Rattle.graphs.specs.Scripts.{Script, ends, unknown, short, next, script, Unread, script_of, refusal, IsAtEnd, IsFirst, ReadsFirst}
use Rattle.graphs.proofs.Scripts.{ends_at, something_left, first_is, refusal_is}
use Rattle.graphs.specs.Commands.{sheet_format}
use Rattle.graphs.specs.Reading.{Sofar, in_order, cause, after, continue, judge, whole_graph, nothing_read, read}
use Rattle.sheet.specs.declared.reader.Draft.{Draft}
use Rattle.sheet.specs.Drafts.{sofar, unended, answer, verdict_on, Told}

pub some_cause : (o : Option Fault) (f : Fault) → Err f ≡ answer o → o ≡ Some f
some_cause None f e = cc
some_cause (Some g) f e = cc

-- behind END every command is out of order
ended_order : (d : Sofar) (c : Command) → d.ended ≡ true → in_order d c ≡ false
ended_order d (command.Steps n) e = and_left _ _ (not_from_true d.ended e)
ended_order d (command.Input w) e = and_left _ _ (not_from_true d.ended e)
ended_order d (command.Add p x y) e = and_left _ _ (not_from_true d.ended e)
ended_order d (command.Multiply p q x y) e = and_left _ _ (not_from_true d.ended e)
ended_order d (command.Output s) e = and_left _ _ (not_from_true d.ended e)
ended_order d command.End e = and_left _ _ (not_from_true d.ended e)

ended_cause : (d : Sofar) (at : ℕ) (c : Command) → d.ended ≡ true → cause d at c ≡ Some (OutOfOrder at)
ended_cause d at c e = cond-false (in_order d c) _ (Some (OutOfOrder at)) (ended_order d c e)

-- only END ends
pub goes_on : (d : Draft) (c : Command) → (c ≡ command.End → ⊥) → unended (after (sofar d) c) ≡ after (sofar d) c
goes_on d (command.Steps n) h = refl
goes_on d (command.Input w) h = refl
goes_on d (command.Add p x y) h = refl
goes_on d (command.Multiply p q x y) h = refl
goes_on d (command.Output s) h = refl
goes_on d command.End h = absurd (h refl)

-- behind END nothing may stand
pub behind_end : (d : Sofar) (at : ℕ) (s : Script Command) → d.ended ≡ true → (s ≡ ends → ⊥) → judge d at s ≡ Err (OutOfOrder at)
unfolding judge
behind_end d at ends e h = absurd (h refl)
behind_end d at unknown e h = ap Err (cond-true d.ended (OutOfOrder at) (UnknownCommand at) e)
behind_end d at short e h = ap Err (cond-true d.ended (OutOfOrder at) (CutShort at) e)
behind_end d at (next c n r) e h = ap (λ o. continue o (judge (after d c) (at + n) r)) (ended_cause d at c e)

pub at_end : (d : Sofar) (at : ℕ) (s : Script Command) → d.ended ≡ true → s ≡ ends → judge d at s ≡ Ok (whole_graph d)
unfolding judge
at_end d at s e k = ap (judge d at) k ∙ cond-true d.ended _ _ e

-- at the start everything is left
pub read_start : (bs : List ℕ) (u : Unread) → u.bytes ≡ bs → u.at ≡ 0 → read bs ≡ verdict_on nothing_read u
unfolding read
read_start bs u b p = ap₂ (λ x y. judge nothing_read y (script sheet_format 0 (drop y x))) (sym b) (sym p)

-- a state before END from which the bytes u decide what the sheet is read as
module _ (bs : List ℕ) (d : Sofar) (u : Unread) (before : d.ended ≡ false) (decides : read bs ≡ verdict_on d u) where
  -- where nothing is left, END is missing
  pub read_open : IsAtEnd u → read bs ≡ Err (CutShort u.at)
  unfolding judge
  read_open h = decides ∙ ap (judge d u.at) (ends_at sheet_format u h) ∙ cond-false d.ended _ _ before

  refused : (s : Script Command) (f : Fault) → refusal u.at s ≡ Some f → judge d u.at s ≡ Err f
  unfolding judge
  refused ends f e = cc
  refused unknown f e = let w = cond-false d.ended (OutOfOrder u.at) (UnknownCommand u.at) before in cc
  refused short f e = let w = cond-false d.ended (OutOfOrder u.at) (CutShort u.at) before in cc
  refused (next c n r) f e = cc

  -- what the reader is told next, r at the position p, and the bytes v that are left then
  module _ (p : ℕ) (r : Result Command Fault) (v : Unread) (told : (p ≡ u.at) × ReadsFirst sheet_format u r v) where
    pub read_refused : (f : Fault) → r ≡ Err f → read bs ≡ Err f
    read_refused f is = decides ∙ refused (script_of sheet_format u) f (refusal_is sheet_format u v r f told.1 is)

    module _ (c : Command) (is : r ≡ Ok c) where
      first : IsFirst sheet_format u c v
      first = first_is sheet_format u v r c told.1 is

      one_on : read bs ≡ continue (cause d p c) (verdict_on (after d c) v)
      unfolding judge
      one_on =
          let k = first.further in
          let q : u.at + (v.at - u.at) ≡ v.at = omega arith in
          decides ∙ ap (judge d u.at) first.said ∙ ap₂ (λ x y. continue (cause d x c) (judge (after d c) y (script_of sheet_format v))) (sym told.0) q

      pub read_told : (f : Fault) → Told (cause d p c) f → (f ≡ OutOfMemory) ⊎ (read bs ≡ Err f)
      read_told f (inl m) = inl m
      read_told f (inr k) = inr (one_on ∙ ap (λ o. continue o (verdict_on (after d c) v)) k)

      pub read_on : cause d p c ≡ None → read bs ≡ verdict_on (after d c) v
      read_on k = one_on ∙ ap (λ o. continue o (verdict_on (after d c) v)) k

      module _ (end : c ≡ command.End) (k : cause d p c ≡ None) where
        ended : (after d c).ended ≡ true
        ended = ap (λ x. (after d x).ended) end

        pub read_whole : (e : Sofar) → e ≡ unended (after d c) → IsAtEnd v → read bs ≡ Ok (whole_graph e)
        read_whole e taken n = read_on k ∙ at_end (after d c) v.at (script_of sheet_format v) ended (ends_at sheet_format v n) ∙ ap (λ x. Ok (whole_graph x)) (sym taken)

        pub read_behind : (w : Unread) (r : Result Command Fault) → ReadsFirst sheet_format v r w → read bs ≡ Err (OutOfOrder v.at)
        read_behind w r h = read_on k ∙ behind_end (after d c) v.at (script_of sheet_format v) ended (something_left sheet_format v w r h)
