-- The exit of a `?` that returns a callee's fault as it is.
use Rattle.std.proofs.Common.{◌≡◌, Ok, Err, Result, ap}
use Rattle.std.specs.Result.{IsErrAnd}
use Rattle.faults.specs.declared.Fault.{Fault}

pub err_from_exit : {T : Type 0} (r : Result T Fault) (f : Fault) → IsErrAnd r (λ e. e ≡ f) → r ≡ Err f
err_from_exit (Ok x) f h = absurd h
err_from_exit (Err e) f h = ap Err h
