use Rattle.dav_core.proofs.tag.+before_digits.Given as goal

abbrev pub decreases-before_digits : goal.decreases-before_digits
decreases-before_digits l = l.number
