-- What a call that ends a function promises of its `Ok`, in the function's own words; and what is known of known bytes.
use Rattle.std.proofs.Common.{OnOk, IfSome, Result, Ok, Err, Option, Some, None}

pub on_ok : {T E A B : Type 0} (r : Result T E) → (A → B) → OnOk r A → OnOk r B
on_ok (Ok x) f a = f a
on_ok (Err e) f a = tt

pub if_some : {T : Type 0} {A B : T → Type 0} (o : Option T) → ((x : T) → A x → B x) → IfSome o A → IfSome o B
if_some (Some x) f a = f x a
if_some None f a = tt

pub any_some : {T : Type 0} {A : T → Type 0} (o : Option T) → ((x : T) → A x) → IfSome o A
any_some (Some x) f = f x
any_some None f = tt
