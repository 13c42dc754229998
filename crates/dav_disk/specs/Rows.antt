-- The world of a new disk in memory, and the rows that are set in it before it is used.
use Rattle.std.specs.Prelude.{◌==◌, ◌&&◌, ◌||◌, ℕ, pos, ◌+ℤ◌, List, [], ◌∷◌, ◌++◌, Bool, cond, not, max, None, Some, nat_lt, int_lt}
use Rattle.std.specs.List.{list_any}
use Rattle.std.specs.Option.{is_none}
use Rattle.std.specs.Ordering.{int_eq}
use Rattle.dav_core.specs.declared.tree.Row.{Row}
use Rattle.dav_core.specs.declared.tree.Kind.TheVariants.{Dir, File}
use Rattle.dav_core.specs.declared.time.FileTime.{FileTime}
use Rattle.dav_core.specs.declared.change.Change.{Change}
use Rattle.dav_core.specs.Path.{Names}
use Rattle.dav_core.specs.World.{World, put}
use Rattle.dav_core.specs.Changes.{is_free_in}

-- seconds since 1970, and no nanoseconds
abbrev pub at_second : ℕ → FileTime
at_second secs = record { secs = pos secs; nanos = 0 }

abbrev pub root_row : Row
root_row = record { path = []; kind = Dir; number = 1; time = at_second 0 }

-- The root alone. The latest time used is 10^9 nanoseconds.
abbrev pub first_world : World
first_world = record {
  tree = root_row ∷ [];
  files = λ _. None;
  opens = λ _. None;
  listings = λ _. None;
  greatest = 1;
  latest = at_second 1;
  script = [];
}

-- whether a time stands before another
abbrev pub is_earlier : FileTime → FileTime → Bool
is_earlier a b = int_lt a.secs b.secs || (int_eq a.secs b.secs && nat_lt a.nanos b.nanos)

abbrev pub later_of : FileTime → FileTime → FileTime
later_of a b = cond (is_earlier a b) b a

-- 10^9 nanoseconds past a time
abbrev pub second_past : FileTime → FileTime
second_past t = record { secs = t.secs +ℤ pos 1; nanos = t.nanos }

-- before the year 10000
abbrev pub can_be_set : FileTime → Bool
can_be_set t = int_lt t.secs (pos 253402300800) && nat_lt t.nanos 1000000000

-- no row and no file has the number
abbrev pub is_new_number : World → ℕ → Bool
is_new_number w number = not (list_any (λ row. number == row.number) w.tree) && is_none (w.files number)

-- The path is free under a directory, the number is new and below 2^63, and the time is before the year 10000.
abbrev pub can_add : World → Names → ℕ → FileTime → Bool
can_add w path number time =
    is_free_in w.tree path && (is_new_number w number && (nat_lt number 9223372036854775808 && can_be_set time))

-- A row more. Its time raises the latest time used to 10^9 nanoseconds past it at least.
abbrev pub with_row : World → Row → World
with_row w row = record w {
  tree = w.tree ++ row ∷ [];
  greatest = max w.greatest row.number;
  latest = later_of w.latest (second_past row.time);
}

abbrev pub with_dir : World → Names → ℕ → FileTime → World
with_dir w path number time = with_row w (record { path = path; kind = Dir; number = number; time = time })

abbrev pub with_file : World → Names → ℕ → FileTime → List ℕ → World
with_file w path number time bytes =
    record (with_row w (record { path = path; kind = File; number = number; time = time })) {
      files = put number (Some (record { bytes = bytes; time = time })) w.files;
    }

-- a batch of changes more
abbrev pub with_batch : World → List Change → World
with_batch w batch = record w { script = w.script ++ batch ∷ [] }
