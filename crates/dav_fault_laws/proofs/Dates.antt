-- A row of a page is told by its member.
use Rattle.std.proofs.Common.{◌≡◌, ◌≤◌, ◌<◌, ℕ, pos, List, Option, None, Some, sym, ap, subst, ◌∙◌, arith}
use Rattle.jiff_core.specs.Calendar.{IsCivilDate, day_count, days_from_civil}
use Rattle.jiff_core.proofs.CalendarLemmas.{day_count-day, day_count-lt_month, day_count-lt_year, days_from_civil-day_count}
use Rattle.jiff_core.proofs.SignedLemmas.{signed_arith}
use Rattle.dav_core.specs.declared.member.Member.{Member}
use Rattle.dav_core.specs.declared.time.FileTime.{FileTime}
use Rattle.dav_core.specs.DavPath.{WebPath}
use Rattle.dav_core.specs.Info.{known, natural}
use Rattle.dav_page.specs.Listed.{IsDateOf, IsMinute, IsRowOf}
use Rattle.dav_page.specs.declared.row.PageRow.{PageRow}

-- numbers of which neither is less are the same
same_number : (a b : ℕ) → (a < b → ⊥) → (b < a → ⊥) → a ≡ b
same_number a b p q = omega (arith, p, q)

same_days : (y m d e : ℕ) → 1 ≤ d → 1 ≤ e → day_count (pos y) m d ≡ day_count (pos y) m e → d ≡ e
same_days y m d e p q same = omega (arith, same, day_count-day (pos y) m d e p q)

same_months : (y m n d e : ℕ) → IsCivilDate (pos y) m d → IsCivilDate (pos y) n e → day_count (pos y) m d ≡ day_count (pos y) n e → m ≡ n
same_months y m n d e one other same =
    same_number m n (λ lt. omega (arith, same, day_count-lt_month (pos y) m d n e one other.2.0 lt))
    (λ lt. omega (arith, same, day_count-lt_month (pos y) n e m d other one.2.0 lt))

same_years : (y z m n d e : ℕ) → IsCivilDate (pos y) m d → IsCivilDate (pos z) n e → day_count (pos y) m d ≡ day_count (pos z) n e → y ≡ z
same_years y z m n d e one other same =
    same_number y z (λ lt. omega (arith, same, day_count-lt_year (pos y) m d (pos z) n e one other.2.0 (omega (arith, signed_arith, lt))))
    (λ lt. omega (arith, same, day_count-lt_year (pos z) n e (pos y) m d other one.2.0 (omega (arith, signed_arith, lt))))

same_rest : (y m n d e : ℕ) → IsCivilDate (pos y) m d → IsCivilDate (pos y) n e → day_count (pos y) m d ≡ day_count (pos y) n e → (m ≡ n) × (d ≡ e)
same_rest y m n d e one other same =
    let months : m ≡ n = same_months y m n d e one other same in
    (months, same_days y m d e one.2.0 other.2.0 (same ∙ ap (λ x. day_count (pos y) x e) (sym months)))

-- days with one number have one date
same_date : (y z m n d e : ℕ) → IsCivilDate (pos y) m d → IsCivilDate (pos z) n e → days_from_civil (pos y) m d ≡ days_from_civil (pos z) n e
    → (y ≡ z) × ((m ≡ n) × (d ≡ e))
same_date y z m n d e one other same =
    let counts : day_count (pos y) m d ≡ day_count (pos z) n e =
    omega (arith, signed_arith, same, days_from_civil-day_count (pos y) m d, days_from_civil-day_count (pos z) n e) in
    let years : y ≡ z = same_years y z m n d e one other counts in
    (years, same_rest y m n d e one (subst (λ x. IsCivilDate (pos x) n e) (sym years) other) (counts ∙ ap (λ x. day_count (pos x) n e) (sym years)))

one_minute : (secs : ℕ) (a b : List ℕ) → IsMinute secs a → IsMinute secs b → a ≡ b
one_minute secs a b p q =
    let dates = same_date p.year q.year p.month q.month p.day q.day p.civil q.civil (p.counts ∙ sym q.counts) in
    p.spells ∙ (rw (dates.0, dates.1.0, dates.1.1) (sym q.spells))

one_date : (time : Option FileTime) (a b : List ℕ) → IsDateOf time a → IsDateOf time b → a ≡ b
one_date None a b p q = p ∙ sym q
one_date (Some time) a b p q = one_minute (natural time.secs) a b p q

pub one_row : (dir : WebPath) (m : Member) (r s : PageRow) → IsRowOf dir m r → IsRowOf dir m s → r ≡ s
one_row dir m r s p q = row_same (p.path ∙ sym q.path) (p.name ∙ sym q.name) (one_date (known m.modified) r.date s.date p.date q.date) (p.size ∙ sym q.size)
  where
    row_same : r.path ≡ s.path → r.name ≡ s.name → r.date ≡ s.date → r.size ≡ s.size → r ≡ s
    row_same a b c d = λ i. record { path = a i; name = b i; date = c i; size = d i }
