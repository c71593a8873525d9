-- Reading commands from bytes, for any format. The bytes behind a position decide: one command on, the rest of the script stands behind its operands.
use Rattle.std.proofs.Common.{◌≡◌, ℕ, zero, suc, ◌+◌, ◌-◌, ◌<◌, ◌≤◌, cond, List, [], ◌∷◌, length, drop, Some, None, Ok, Err, Option, Result, sym, refl, ap, ◌∙◌, subst, ap₂, inl, inr, arith, length-drop}
use Rattle.std.proofs.lemmas.List.{at_drop_all, drop-drop}
use Rattle.std.proofs.lemmas.Bool.{le-leb, lt-leb, cases_lt}
use Rattle.faults.specs.declared.Fault.{Fault}
use Rattle.graphs.specs.Scripts.{Format, Script, ends, short, next, begun, script, Unread, script_of, refusal, IsAtEnd, IsFirst, ReadsFirst}

-- passing over operands
pub script_skip : {A : Type 0} (F : Format A) (k : ℕ) (bs : List ℕ) → k ≤ length bs → script F k bs ≡ script F 0 (drop k bs)
unfolding script
script_skip F zero bs h = refl
script_skip F (suc k) [] h = absurd (omega arith)
script_skip F (suc k) (b ∷ bs) h = script_skip F k bs (omega arith)

pub begun_short : {A : Type 0} (F : Format A) (b : ℕ) (bs : List ℕ) (n : ℕ) (o : Option ℕ) (rest : ℕ → Script A) → o ≡ Some n → length bs < n → begun F b bs o rest ≡ short
begun_short F b bs n o rest e h = ap (λ x. begun F b bs x rest) e ∙ ap (λ x. cond x (next (F.command b bs) (suc n) (rest n)) short) (lt-leb n (length bs) h)

pub begun_whole : {A : Type 0} (F : Format A) (b : ℕ) (bs : List ℕ) (n : ℕ) (o : Option ℕ) (rest : ℕ → Script A) → o ≡ Some n → n ≤ length bs → begun F b bs o rest ≡ next (F.command b bs) (suc n) (rest n)
begun_whole F b bs n o rest e h = ap (λ x. begun F b bs x rest) e ∙ ap (λ x. cond x (next (F.command b bs) (suc n) (rest n)) short) (le-leb n (length bs) h)

-- why a command cannot be read does not depend on what stands behind it
refusal_begun : {A : Type 0} (F : Format A) (p b : ℕ) (bs : List ℕ) (o : Option ℕ) (r t : ℕ → Script A) → refusal p (begun F b bs o r) ≡ refusal p (begun F b bs o t)
refusal_begun F p b bs None r t = refl
refusal_begun F p b bs (Some n) r t =
    elim (cases_lt (length bs) n) [
      | inl h ↦ ap (refusal p) (begun_short F b bs n (Some n) r refl h) ∙ sym (ap (refusal p) (begun_short F b bs n (Some n) t refl h))
      | inr h ↦ ap (refusal p) (begun_whole F b bs n (Some n) r refl h) ∙ sym (ap (refusal p) (begun_whole F b bs n (Some n) t refl h))
    ]

-- at the end nothing is left to read
pub ends_at : {A : Type 0} (F : Format A) (s : Unread) → IsAtEnd s → script_of F s ≡ ends
unfolding script
ends_at F s h = at_drop_all (script F 0) s.bytes s.at h

abbrev unread : List ℕ → ℕ → Unread
unread bs p = record { bytes = bs; at = p }

-- the byte b stands at the position p, and `behind` behind it
module _ {A : Type 0} (F : Format A) (bs : List ℕ) (p b : ℕ) (behind : List ℕ) (stands : drop p bs ≡ b ∷ behind) where
  begins : script_of F (unread bs p) ≡ begun F b behind (F.operands b) (λ n. script F n behind)
  unfolding script
  begins = ap (script F 0) stands

  behind_is : behind ≡ drop (p + 1) bs
  behind_is = sym (ap (drop 1) stands) ∙ drop-drop 1 p bs

  pub told_first : (n : ℕ) (c : A) → F.operands b ≡ Some n → n ≤ length behind → c ≡ F.command b behind → IsFirst F (unread bs p) c (unread bs (p + 1 + n))
  told_first n c e h is =
      let l = length-drop p bs in
      let k = ap length stands in
      let size : suc n ≡ p + 1 + n - p = omega arith in
      record {
        bytes = refl;
        further = omega arith;
        inside = omega arith;
        said =
            begins
            ∙ begun_whole F b behind n (F.operands b) (λ m. script F m behind) e h
            ∙ ap₂ (λ x m. next x m (script F n behind)) (sym is) size
            ∙ ap (next c (p + 1 + n - p)) (script_skip F n behind h ∙ ap (λ x. script F 0 (drop n x)) behind_is ∙ ap (script F 0) (drop-drop n (p + 1) bs));
      }

  pub told_refusal : (f : Fault) → refusal p (begun F b behind (F.operands b) (λ n. ends)) ≡ Some f → refusal p (script_of F (unread bs p)) ≡ Some f
  told_refusal f e = ap (refusal p) begins ∙ refusal_begun F p b behind (F.operands b) (λ n. script F n behind) (λ n. ends) ∙ e

-- where a reader gets something, something was left
pub something_left : {A : Type 0} (F : Format A) (s t : Unread) (r : Result A Fault) → ReadsFirst F s r t → script_of F s ≡ ends → ⊥
something_left F s t (Ok c) h e = let k = h.said in cc
something_left F s t (Err f) h e = let k = h.0 in let l = ap (refusal s.at) e in cc

-- a reader that is given a command, or a refusal, is given it as it stands
pub first_is : {A : Type 0} (F : Format A) (s t : Unread) (r : Result A Fault) (c : A) → ReadsFirst F s r t → r ≡ Ok c → IsFirst F s c t
first_is F s t r c h e = subst (λ x. ReadsFirst F s x t) e h

pub refusal_is : {A : Type 0} (F : Format A) (s t : Unread) (r : Result A Fault) (f : Fault) → ReadsFirst F s r t → r ≡ Err f → refusal s.at (script_of F s) ≡ Some f
refusal_is F s t r f h e = (subst (λ x. ReadsFirst F s x t) e h).0
