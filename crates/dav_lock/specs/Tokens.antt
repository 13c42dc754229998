-- Tokens and leases of locks.
use Rattle.std.specs.Prelude.{◌+◌, ◌*◌, ◌==◌, ℕ, Bool, true, false, cond, List, ◌++◌, drop, Option, Some, None, option_map, codes, nat_lt}
use Rattle.std.specs.Option.{option_and_then}
use Rattle.std.specs.List.{position, before_first}
use Rattle.std.specs.Str.{bytes_eq}
use Rattle.uuid.specs.Text.{hyphenated_text, lower}
use Rattle.dav_io.specs.declared.clock.Moment.{Moment}
use Rattle.dav_lock.specs.declared.lease.Lease.{Lease}

abbrev pub depth_of : Bool → List ℕ
depth_of true = codes "I"
depth_of false = codes "0"

abbrev pub scope_of : Bool → List ℕ
scope_of true = codes "S"
scope_of false = codes "E"

-- the token of a lock
abbrev pub token_of : List ℕ → Bool → Bool → List ℕ
token_of id deep shared =
    codes "opaquetoken:"
    ++ (hyphenated_text lower id ++ (codes "/" ++ (depth_of deep ++ (codes "/" ++ scope_of shared))))

-- a text up to its first slash, and what follows it
abbrev pub first_part : List ℕ → List ℕ
first_part t = before_first (λ b. b == 47) t

abbrev pub later_parts : List ℕ → Option (List ℕ)
later_parts t = option_map (λ i. drop (i + 1) t) (position (λ b. b == 47) t)

abbrev pub is_part : List ℕ → Option (List ℕ) → Bool
is_part want None = false
is_part want (Some t) = bytes_eq (first_part t) want

-- whether the second part of a token says deep, and the third shared
abbrev pub is_deep : List ℕ → Bool
is_deep token = is_part (codes "I") (later_parts token)

abbrev pub is_shared : List ℕ → Bool
is_shared token = is_part (codes "S") (option_and_then later_parts (later_parts token))

abbrev pub longest : Lease
longest = record { secs = 120; nanos = 0 }

-- the lease that is given: at most 120 whole seconds, and these where none is asked
abbrev pub granted : Option Lease → Lease
granted None = longest
granted (Some lease) = cond (nat_lt 120 lease.secs) longest lease

-- when a lease ends, where a moment can tell it
abbrev pub ends_at : Moment → Lease → Option Moment
ends_at now lease =
    let at = now.0 + (lease.secs * 1000000000 + lease.nanos) in
    cond (nat_lt at 18446744073709551616) (Some (record { 0 = at })) None
