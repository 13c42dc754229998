-- What a request finds over a store.
use Rattle.std.specs.Prelude.{◌≡◌, ℕ, List, [], false, Option, None, Some, Result, Ok, Err}
use Rattle.http.specs.Request.{body_of}
use Rattle.dav_io.specs.declared.failure.NoMemory.{NoMemory}
use Rattle.dav_core.specs.declared.dav_error.DavError.{DavError}
use Rattle.dav_core.specs.Disk.{DiskState}
use Rattle.dav_core.specs.Statuses.{closes, lacks_memory, status_of}
use Rattle.dav_model.specs.declared.target.Target.{Target}
use Rattle.dav_model.specs.Calls.{AsksAtGate, AsksToReply}
use Rattle.dav_model.specs.Conditions.{Fields, Asked, fields_of}
use Rattle.dav_model.specs.Head.{Reply, refusal}
use Rattle.dav_model.specs.Bodies.{read_size_of}
use Rattle.dav_model.specs.Play.{Replies}
use Rattle.dav_model.specs.Rules.{Learns}
use Rattle.dav_model.specs.Written.{Makes}
use Rattle.dav_store.specs.Frames.{KeepsOpen}
use Rattle.dav_get.specs.Bodies.{left_of}
use Rattle.dav_get.specs.Lives.{OpensOnly}
use Rattle.dav_local.specs.declared.file.LocalFsFile.{LocalFsFile}
use Rattle.dav_config.specs.declared.finding.Found.{Found as FoundOver}
use Rattle.dav_config.specs.Finding.{IsAlone}
use Rattle.dav_handler.specs.By.{Over}
use Rattle.dav_handler.specs.Held.{Body, IsOpen, handle_of, parts_in}

-- what is found over a local store
abbrev pub Found : Type 0
Found = FoundOver LocalFsFile

-- the fields and the body of a request
pub record Said : Type 0 where
  pub fields : Fields
  pub body : List ℕ

abbrev pub said_in : Asked → Said
said_in request = record { fields = fields_of request; body = body_of request }

-- what is answered with what was found
abbrev pub reply_of : DiskState → Found → Reply
reply_of t found =
    record { status = found.outcome.status; fields = found.outcome.fields; parts = parts_in t found.body }

-- Nothing stays open but the file of a body, which is new.
abbrev pub HoldsOnly : ℕ → DiskState → Option Body → DiskState → Type 0
HoldsOnly most s None t = KeepsOpen s t
HoldsOnly most s (Some b) t = OpensOnly handle_of s b.file t × IsOpen most t b

-- The rules stay, and the memory knows nothing more but what the told world has.
pub record Stays (o p : Over) : Type 0 where
  pub rules : p.by.rules ≡ o.by.rules
  pub learns : Learns o.disk.told o.by.knows p.by.knows

-- The answer to what is asked for.
pub record Answers (o : Over) (said : Said) (target : Target) (found : Found) (p : Over) : Type 0 where
  pub stays : Stays o p
  pub holds : HoldsOnly (read_size_of o.by.rules.settings.read_buf_size) o.disk found.body p.disk
  -- what it makes of the told world
  pub makes : Makes target o.by.rules o.by.knows said.fields said.body (Ok (reply_of p.disk found)) o.disk p.disk
  pub right : Replies target o.by.rules o.by.knows o.disk p.disk said.fields (reply_of p.disk found)
  pub asks : AsksToReply target o.by.rules o.by.knows said.fields found.outcome.status found.outcome.fields o.disk
      p.disk

-- Memory was refused.
pub record Starves (o : Over) (said : Said) (target : Target) (p : Over) : Type 0 where
  pub stays : Stays o p
  pub keeps : KeepsOpen o.disk p.disk
  pub makes : (e : NoMemory) → Makes target o.by.rules o.by.knows said.fields said.body (Err e) o.disk p.disk
  pub asks : AsksAtGate target o.disk.asked p.disk.asked

abbrev pub Finds : Over → Said → Target → Result Found NoMemory → Over → Type 0
Finds o said target (Ok found) p = Answers o said target found p
Finds o said target (Err e) p = Starves o said target p

-- what an error is answered with to a request with these fields; want of memory is none
pub record IsRefusedBy (fields : Fields) (error : DavError) (found : Found) : Type 0 where
  pub memory : lacks_memory error ≡ false
  pub refused : IsAlone (refusal fields (status_of error) (closes error)) found

-- A body of which something is left is given; another is ended, and there was no file.
abbrev pub Gives : DiskState → Body → Option Body → DiskState → Type 0
Gives s body None t = (t ≡ s) × (left_of body ≡ []) × (body.file ≡ None)
Gives s body (Some b) t = (t ≡ s) × (b ≡ body)

-- The same of what was found, where it has a body.
abbrev pub GivesFound : DiskState → Option Body → Option Body → DiskState → Type 0
GivesFound s None given t = (t ≡ s) × (given ≡ None)
GivesFound s (Some body) given t = Gives s body given t
