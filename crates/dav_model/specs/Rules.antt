-- The rules of a run, and what the memory of its store knows. Both are fixed or grow with the run; neither is a cache.
use Rattle.std.specs.Prelude.{◌≡◌, ◌⊎◌, Bool, true, false, Option, None, Some}
use Rattle.dav_core.specs.declared.time.FileTime.{FileTime}
use Rattle.dav_core.specs.Path.{Names}
use Rattle.dav_core.specs.Tree.{is_linked}
use Rattle.dav_core.specs.World.{World}
use Rattle.dav_model.specs.declared.settings.Settings.{Settings}
use Rattle.dav_model.specs.Folds.{Name, is_dot, has_name, dir_time}

-- What the owner sets, and how the store finds what a path names.
pub record Rules : Type 0 where
  pub settings : Settings
  -- a name may be found that folds like the one asked
  pub folds : Bool
  -- the rules for clients of macOS
  pub macos : Bool
  -- the file that every path names, where one is served alone
  pub alone : Option Names

-- the rules of a run in which each path is meant as it is written
abbrev pub plain_rules : Settings → Rules
plain_rules settings = record { settings = settings; folds = false; macos = false; alone = None }

-- What a memory knows: which names that begin with `._` a directory path has at a time. Where it is open, it may call
-- any such name absent. And where it has paths, where it tells that: of each path the place that it has, or none.
pub record Knowledge : Type 0 where
  pub names : Names → FileTime → Option (Name → Bool)
  pub is_open : Names → FileTime → Bool
  pub places : Option (Names → Option Names)

abbrev pub nothing_known : Knowledge
nothing_known = record { names = λ dir time. None; is_open = λ dir time. false; places = Some (λ names. None) }

-- the same names that begin with `._`
abbrev pub SameDots : (Name → Bool) → (Name → Bool) → Type 0
SameDots a b = (x : Name) → is_dot x ≡ true → a x ≡ b x

-- A directory stands there with this time, and has these names that begin with `._`.
pub record HasNames (w : World) (dir : Names) (time : FileTime) (has : Name → Bool) : Type 0 where
  pub there : dir_time w.tree dir ≡ Some time
  pub names : SameDots has (has_name w.tree dir)

-- It does, where no link stands on the way to it: behind one a disk tells nothing.
abbrev pub ShowsNames : World → Names → FileTime → (Name → Bool) → Type 0
ShowsNames w dir time has = is_linked w.tree dir ≡ false → HasNames w dir time has

-- What is known of a directory of the world at its time is what it has.
pub record IsSound (k : Knowledge) (w : World) : Type 0 where
  pub closed : (dir : Names) (time : FileTime) → dir_time w.tree dir ≡ Some time → k.is_open dir time ≡ false
  pub names : (dir : Names) (time : FileTime) (has : Name → Bool) → dir_time w.tree dir ≡ Some time
      → k.names dir time ≡ Some has → SameDots has (has_name w.tree dir)

abbrev pub WasKnown : Knowledge → Names → FileTime → (Name → Bool) → Type 0
WasKnown k dir time has = (had : Name → Bool) × (k.names dir time ≡ Some had) × SameDots has had

-- What is known after was known before, or a world that is told shows it.
pub record Learns (told : Option World) (k l : Knowledge) : Type 0 where
  pub open_same : (dir : Names) (time : FileTime) → l.is_open dir time ≡ k.is_open dir time
  pub known : (dir : Names) (time : FileTime) (has : Name → Bool) → l.names dir time ≡ Some has
      → WasKnown k dir time has ⊎ ((w : World) → told ≡ Some w → ShowsNames w dir time has)

-- what is known after was known before
pub record Forgets (k l : Knowledge) : Type 0 where
  pub open_same : (dir : Names) (time : FileTime) → l.is_open dir time ≡ k.is_open dir time
  pub known : (dir : Names) (time : FileTime) (has : Name → Bool) → l.names dir time ≡ Some has
      → WasKnown k dir time has

-- The memory may call a name that begins with `._` absent from the directory at its time.
abbrev pub MayDeny : Knowledge → Names → FileTime → Name → Type 0
MayDeny k dir time name = (k.is_open dir time ≡ true) ⊎ ((has : Name → Bool) × (k.names dir time ≡ Some has)
    × (has name ≡ false))
