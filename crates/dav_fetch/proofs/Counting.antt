-- What calls of a peer come to, one after another.
use Rattle.std.proofs.Common.{◌≡◌, ◌≤◌, ◌+◌, ℕ, Bool, true, false, refl, subst, ◌∙◌, arith}
use Rattle.dav_io.specs.Counts.{Rose}
use Rattle.dav_fetch.specs.Peer.{Calls, Counts, CountsFailure}

-- no failure was met before
failed_behind : (failed : Bool) (s m t : Calls) → m.failures ≡ s.failures → CountsFailure failed m t → CountsFailure failed s t
failed_behind true s m t same rose = subst (λ n. Rose n t.failures) same rose
failed_behind false s m t same none = none ∙ same

pub counts_none : (s : Calls) → Counts 0 false s s
counts_none s = record { replies = omega arith; turns = omega arith; failures = refl }

-- calls that met no failure, and then others
pub counts_then : {first second most : ℕ} {failed : Bool} (s m t : Calls) → Counts first false s m → Counts second failed m t → first + second ≤ most → Counts most failed s t
counts_then {first} {second} {most} {failed} s m t one other few =
    let replies = one.replies in
    let turns = one.turns in
    let more_replies = other.replies in
    let more_turns = other.turns in record {
      replies = omega (arith, replies, more_replies, few);
      turns = omega (arith, turns, more_turns, few);
      failures = failed_behind failed s m t one.failures other.failures;
    }

-- a piece came behind other calls
pub piece_behind : (s m t : Calls) → Counts 0 false s m → t.replies ≤ m.replies → t.turns ≤ m.turns → t.failures ≡ m.failures → Counts 0 false s t
piece_behind s m t one few_replies few_turns same =
    let replies = one.replies in
    let turns = one.turns in
    record { replies = omega (arith, replies, few_replies); turns = omega (arith, turns, few_turns); failures = same ∙ one.failures }
