-- Quoted text as bytes, for the figures and the sessions.
use Rattle.std.specs.Prelude.{ℕ, List, [] as none, ◌∷◌ as ◌then◌}
use Prim.Native.Char.{code}
use Prim.Native.String.{String, [], ◌∷◌}

unfoldable pub text : String → List ℕ
text [] = none
text (c ∷ s) = ◌then◌ (code c) (text s)
