-- The fixed words are told apart by their codes.
use Rattle.std.proofs.Common.{◌≡◌, true, List, [], ◌∷◌, get_or, sym, refl, ap, ◌∙◌}
use Rattle.std.proofs.lemmas.Bool.{eqb-true}
use Rattle.grammar.specs.Grammar.{Fixed, Begin, End, Declare, Integer, String, If, Then, Else, Fi, While, Do, Od, Open, Close, Plus, Minus, Semicolon, Comma, Join, Colon, Becomes}
use Rattle.grammar.specs.Machine.{code, same}

abbrev words : List Fixed
words = Begin ∷ End ∷ Declare ∷ Integer ∷ String ∷ If ∷ Then ∷ Else ∷ Fi ∷ While ∷ Do ∷ Od ∷ Open ∷ Close ∷ Plus ∷ Minus ∷ Semicolon ∷ Comma ∷ Join ∷ Colon ∷ Becomes ∷ []

decoded : (w : Fixed) → get_or words (code w) Begin ≡ w
decoded Begin = refl
decoded End = refl
decoded Declare = refl
decoded Integer = refl
decoded String = refl
decoded If = refl
decoded Then = refl
decoded Else = refl
decoded Fi = refl
decoded While = refl
decoded Do = refl
decoded Od = refl
decoded Open = refl
decoded Close = refl
decoded Plus = refl
decoded Minus = refl
decoded Semicolon = refl
decoded Comma = refl
decoded Join = refl
decoded Colon = refl
decoded Becomes = refl

pub same_is : (v w : Fixed) → same v w ≡ true → v ≡ w
same_is v w e = sym (decoded v) ∙ ap (λ n. get_or words n Begin) (eqb-true (code v) (code w) e) ∙ decoded w
