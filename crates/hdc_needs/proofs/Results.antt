-- What follows from an answer.
use Rattle.std.proofs.Common.{Result, Ok, Err, OnOk}

pub ok_then : {A E P Q : Type 0} (r : Result A E) → (P → Q) → OnOk r P → OnOk r Q
ok_then (Ok a) f h = f h
ok_then (Err e) f h = h
