-- Reading from the front of a buffer, step by step: the first fault ends the reading.
use Rattle.std.specs.Prelude.{◌≡◌, Result, Ok, Err}

-- The next step gets what this step read. A fault ends the reading.
infixl 10 ◌>>=◌
abbrev pub ◌>>=◌ : {A B E : Type 0} → Result A E → (A → Result B E) → Result B E
(Ok x) >>= f = f x
(Err e) >>= f = Err e

-- The same after a step that reads nothing.
infixl 10 ◌>>◌
abbrev pub ◌>>◌ : {A B E : Type 0} → Result A E → Result B E → Result B E
(Ok x) >> r = r
(Err e) >> r = Err e

-- The result, with `view` applied to the value that was read.
abbrev pub map_ok : {A B E : Type 0} → (A → B) → Result A E → Result B E
map_ok view (Ok x) = Ok (view x)
map_ok view (Err e) = Err e

-- The function's result, through `view`, equals the result of reading.
abbrev pub Gives : {X Y E : Type 0} → (X → Y) → Result X E → Result Y E → Type 0
Gives view (Ok x) read = read ≡ Ok (view x)
Gives view (Err e) read = read ≡ Err e
