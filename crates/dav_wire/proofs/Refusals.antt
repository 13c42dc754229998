-- What the parser's errors say.
use Rattle.std.proofs.Common.{◌≡◌, ◌≢◌, ℕ, List, refl, subst}
use Rattle.httparse.specs.Grammar.{NeverHasRequest}
use Rattle.httparse.specs.Spans.{RequestExceeds, RequestOverflows}
use Rattle.httparse.specs.declared.Error.{Error}
use Rattle.httparse.specs.declared.Error.TheVariants.{HeaderName, HeaderValue, NewLine, Status as StatusFault, Token, TooManyHeaders, Version}
use Rattle.dav_wire.specs.Requests.{Refusal, never, many}

pub refusal_of : (buf : List ℕ) (room : ℕ) (e : Error) → room ≡ 256 → (e ≢ TooManyHeaders → NeverHasRequest buf)
    → (e ≡ TooManyHeaders → RequestExceeds room buf) → RequestOverflows room buf → Refusal buf
refusal_of buf room TooManyHeaders same invalid exceeds overflows =
    many (subst (λ n. RequestExceeds n buf) same (exceeds refl)) (subst (λ n. RequestOverflows n buf) same overflows)
refusal_of buf room HeaderName same invalid exceeds overflows = never (invalid (λ e. cc))
refusal_of buf room HeaderValue same invalid exceeds overflows = never (invalid (λ e. cc))
refusal_of buf room NewLine same invalid exceeds overflows = never (invalid (λ e. cc))
refusal_of buf room StatusFault same invalid exceeds overflows = never (invalid (λ e. cc))
refusal_of buf room Token same invalid exceeds overflows = never (invalid (λ e. cc))
refusal_of buf room Version same invalid exceeds overflows = never (invalid (λ e. cc))
