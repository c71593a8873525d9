-- Runs of calls, each with its answers. Between them they meet every cause from 8 to 16, and the two cases in which runs and lives touch.
use Rattle.std.specs.Prelude.{◌≡◌, ℕ, List, [], ◌∷◌, Some, None, Option}
use Rattle.faults.specs.declared.Fault.{Fault}
use Rattle.faults.specs.declared.Fault.TheVariants.{CallOutOfRange, AlreadyThere, NotThere, StillServing, TooNarrow, TooLate, NotReady, UnitBusy, RegisterBusy}
use Rattle.prices.specs.Prices.{Prices}
use Rattle.prices.specs.Lists.{formula}
use Rattle.graphs.specs.declared.Source.TheVariants.{Input, Earlier}
use Rattle.graphs.specs.declared.Operand.{Operand}
use Rattle.graphs.specs.declared.Operation.TheVariants.{Add}
use Rattle.graphs.specs.Graphs.{Graph}
use Rattle.plans.specs.Plans.{Plan, empty}
use Rattle.plans.specs.Calls.{Call, hire, dismiss, place, lift, verdict, after}

-- the answer of each call, none where it is taken
abbrev pub answers : Graph → Prices → Plan → List Call → List (Option Fault)
answers G P pl [] = []
answers G P pl (c ∷ cs) = verdict G P pl c ∷ answers G P (after G P pl c) cs

abbrev pub of_input : ℕ → Operand
of_input i = record { source = Input i; drop = 0 }

-- operation 1 reads operation 0 and is the output; operation 2 stands by itself; every addition takes 2 steps
abbrev pub three_sums : Graph
three_sums = record {
  limit = 9;
  inputs = 8 ∷ 8 ∷ [];
  operations =
      Add 8 (of_input 0) (of_input 1)
      ∷ Add 8 (record { source = Earlier 0; drop = 0 }) (of_input 0)
      ∷ Add 8 (of_input 0) (of_input 1)
      ∷ [];
  outputs = 1 ∷ [];
}

abbrev pub LongRun : Type 0
LongRun =
    answers three_sums (formula 1 1) empty
    (hire 3 0 8 0 ∷ hire 0 64 8 0 ∷ hire 0 0 41 0 ∷ hire 1 0 8 9
    ∷ hire 0 0 8 0 ∷ hire 0 0 4 0 ∷ hire 0 1 8 0 ∷ hire 0 2 4 0 ∷ hire 2 0 8 0 ∷ hire 2 1 8 0 ∷ hire 2 2 4 0
    ∷ dismiss 1 5 ∷ lift 0 ∷ place 3 0 0 0
    ∷ place 0 5 0 0 ∷ place 0 0 0 7 ∷ place 0 2 0 0 ∷ place 0 0 0 2 ∷ place 0 0 8 0
    ∷ place 0 0 0 0 ∷ place 0 0 0 0 ∷ place 1 0 1 1 ∷ place 1 0 5 1
    -- operation 0 is last read at step 5: a value that finishes at 5 has no place in its register, one at 6 has
    ∷ place 2 0 6 0 ∷ place 2 1 3 0 ∷ place 2 1 4 0
    ∷ dismiss 0 1 ∷ dismiss 2 1 ∷ lift 2
    -- operation 1 runs up to step 7, and the next run may start there
    ∷ place 2 0 7 0 ∷ [])
    ≡ Some (CallOutOfRange 0) ∷ Some (CallOutOfRange 1) ∷ Some (CallOutOfRange 2) ∷ Some (CallOutOfRange 3)
    ∷ None ∷ Some (AlreadyThere 1) ∷ None ∷ None ∷ None ∷ None ∷ None
    ∷ Some (NotThere 1) ∷ Some (NotThere 0) ∷ Some (CallOutOfRange 0)
    ∷ Some (NotThere 1) ∷ Some (NotThere 3) ∷ Some (TooNarrow 1) ∷ Some (TooNarrow 3) ∷ Some (TooLate 10)
    ∷ None ∷ Some (AlreadyThere 0) ∷ Some (NotReady 0) ∷ None
    ∷ Some (UnitBusy 1) ∷ Some (RegisterBusy 0) ∷ None
    ∷ Some (StillServing 2) ∷ Some (StillServing 1) ∷ None
    ∷ None ∷ []

-- a reader that comes later lengthens its operand's life, and meets a clash in the operand's register
abbrev pub Lengthened : Type 0
Lengthened =
    answers three_sums (formula 1 1) empty
    (hire 0 0 8 0 ∷ hire 0 1 8 0 ∷ hire 2 0 8 0 ∷ hire 2 1 8 0 ∷ place 0 0 0 0 ∷ place 2 1 1 0 ∷ place 1 0 3 1 ∷ place 1 0 2 1 ∷ [])
    ≡ None ∷ None ∷ None ∷ None ∷ None ∷ None ∷ Some (RegisterBusy 0) ∷ None ∷ []
