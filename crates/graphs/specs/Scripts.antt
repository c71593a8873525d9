-- What a string of bytes says: commands, each a byte and its operands.
use Rattle.std.specs.Prelude.{◌≡◌, ℕ, zero, suc, ◌-◌, ◌<◌, ◌≤◌, Bool, false, cond, List, [], ◌∷◌, length, drop, Some, None, Ok, Err, Option, Result, nat_le}
use Rattle.faults.specs.declared.Fault.{Fault}
use Rattle.faults.specs.declared.Fault.TheVariants.{UnknownCommand, CutShort}

-- how many operands the command of a byte has, if there is such a command; and that command with the operands at the front of a list
pub record Format (A : Type 0) : Type 0 where
  pub operands : ℕ → Option ℕ
  pub command : ℕ → List ℕ → A

-- commands, each with how many bytes it has, and then the end, a byte of no command, or a command that is cut short
pub data Script (A : Type 0) : Type 0 where
  ends : Script A
  unknown : Script A
  short : Script A
  next : A → ℕ → Script A → Script A

-- a command's byte b before bs, where rest is what comes behind its operands
abbrev pub begun : {A : Type 0} → Format A → ℕ → List ℕ → Option ℕ → (ℕ → Script A) → Script A
begun F b bs None rest = unknown
begun F b bs (Some n) rest = cond (nat_le n (length bs)) (next (F.command b bs) (suc n) (rest n)) short

-- what stands behind the first k bytes, which are operands of the command before
unfoldable pub script : {A : Type 0} → Format A → ℕ → List ℕ → Script A
script F zero [] = ends
script F zero (b ∷ bs) = begun F b bs (F.operands b) (λ n. script F n bs)
script F (suc k) [] = ends
script F (suc k) (b ∷ bs) = script F k bs

-- whether so many bytes hold the operands of a command that has them
abbrev pub holds_operands : Option ℕ → ℕ → Bool
holds_operands None room = false
holds_operands (Some n) room = nat_le n room

-- the command of a byte with the operands at the front of a list, if there is such a command and they are all there
abbrev pub command_in : {A : Type 0} → Format A → ℕ → List ℕ → Option A
command_in F b bs = cond (holds_operands (F.operands b) (length bs)) (Some (F.command b bs)) None

-- bytes that are read from a position on
pub record Unread : Type 0 where
  pub bytes : List ℕ
  pub at : ℕ

-- nothing is left
abbrev pub IsAtEnd : Unread → Type 0
IsAtEnd s = length s.bytes ≤ s.at

-- what they say
abbrev pub script_of : {A : Type 0} → Format A → Unread → Script A
script_of F s = script F 0 (drop s.at s.bytes)

-- why the first command of a script that stands at a position cannot be read, if it cannot
abbrev pub refusal : {A : Type 0} → ℕ → Script A → Option Fault
refusal at ends = None
refusal at unknown = Some (UnknownCommand at)
refusal at short = Some (CutShort at)
refusal at (next c n rest) = None

-- the command c stands first in the bytes s, and behind it the bytes t
pub record IsFirst {A : Type 0} (F : Format A) (s : Unread) (c : A) (t : Unread) : Type 0 where
  pub bytes : t.bytes ≡ s.bytes
  pub further : s.at < t.at
  pub inside : t.at ≤ length s.bytes
  pub said : script_of F s ≡ next c (t.at - s.at) (script_of F t)

-- a reader of the bytes s is given their first command, and the bytes t behind it are left; or it is told why there is none, and nothing is left
abbrev pub ReadsFirst : {A : Type 0} → Format A → Unread → Result A Fault → Unread → Type 0
ReadsFirst F s (Ok c) t = IsFirst F s c t
ReadsFirst F s (Err f) t = (refusal s.at (script_of F s) ≡ Some f) × IsAtEnd t

-- the same with its position, or nothing where nothing is left
abbrev pub Reads : {A : Type 0} → Format A → Unread → Option (ℕ × Result A Fault) → Unread → Type 0
Reads F s None t = IsAtEnd s × (t ≡ s)
Reads F s (Some x) t = (x.0 ≡ s.at) × ReadsFirst F s x.1 t

-- the command of the byte b at a position, with how many operands it has, or why it cannot be read
abbrev pub AnswersFirst : {A : Type 0} → Format A → ℕ → ℕ → List ℕ → Result (A × ℕ) Fault → Type 0
AnswersFirst F at b bs (Ok x) = (F.operands b ≡ Some x.1) × (x.1 ≤ length bs) × (x.0 ≡ F.command b bs)
AnswersFirst F at b bs (Err f) = refusal at (begun F b bs (F.operands b) (λ n. ends)) ≡ Some f
