use Rattle.std.proofs.Common.{◌≡◌, ◌++◌, filter, map, drop}
use Rattle.dav_model.specs.Allowing.{is_told, word_of}
use Rattle.dav_methods.proofs.telling.words_of.Given as goal

-- the words so far, and those of what is left
abbrev pub invariant-loop-method : goal.invariant-loop-method
invariant-loop-method l = map (λ word. word.now) l.words.items ++ map word_of (filter (is_told l.allow l.void) (drop l.method-index l.methods)) ≡ map word_of (filter (is_told l.allow l.void) l.methods)
