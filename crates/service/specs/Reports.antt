-- Which reports a request earns, and their octets
use Rattle.std.specs.Prelude.{◌≡◌, ℕ, Bool, cond, List, [], ◌∷◌, ◌++◌, length}
use Rattle.report.specs.declared.ReportKind.{ReportKind}
use Rattle.report.specs.declared.ReportKind.TheVariants.{AcceptanceSuccess, AcceptanceFailure, CompletionSuccess, Status, Connection}
use Rattle.report.specs.Report.{Content, content_of, two_octets, over, reports_of}
use Rattle.request.specs.declared.rejection.Rejection.{Rejection}
use Rattle.packet.specs.declared.Failure.{Failure}
use Rattle.request.specs.declared.request.Ack.{Ack}
use Rattle.request.specs.Rejection.{failure_of}
use Rattle.request.specs.Request.{Named, few, Asked, enables, disables, asks_status, tests_connection}
use Rattle.status.specs.Switches.{flagged, unwords}
use Rattle.service.specs.State.{State, counted}

-- a success of a kind with the request's name, where the request asks for it
abbrev pub success_of : ReportKind → Bool → List ℕ → List Content
success_of kind asked name = cond asked (content_of kind name ∷ []) []

-- 1,1
abbrev pub acceptance_of : Ack → List ℕ → List Content
acceptance_of ack name = success_of AcceptanceSuccess ack.acceptance name

-- 1,2 with the request's name, the code, A and B
abbrev pub failure_body : List ℕ → Failure → List ℕ
failure_body name f = name ++ (two_octets f.code ++ (two_octets f.a ++ two_octets f.b))

abbrev pub rejection_of : Rejection → List ℕ → List Content
rejection_of r name = content_of AcceptanceFailure (failure_body name (failure_of r)) ∷ []

-- 1,7
abbrev pub completion_of : Ack → List ℕ → List Content
completion_of ack name = success_of CompletionSuccess ack.completion name

-- the body of a status report: how many of each, then each number named, raised by 32768 where it is enabled
abbrev pub status_body : (ℕ → Bool) → (ℕ → Bool) → Named → List ℕ
status_body subschedules apids n =
    length n.subschedules
    ∷ length n.apids
    ∷ (unwords (flagged subschedules n.subschedules) ++ unwords (flagged apids n.apids))

-- the reports with what a request asked to know, by which subschedules and APIDs are enabled
abbrev pub data_of : (ℕ → Bool) → (ℕ → Bool) → Asked → List Content
data_of subschedules apids (enables n) = []
data_of subschedules apids (disables n) = []
data_of subschedules apids (asks_status n) = cond (few n) (content_of Status (status_body subschedules apids n) ∷ []) []
data_of subschedules apids tests_connection = content_of Connection [] ∷ []

-- the octets of reports that are given now
abbrev pub octets_of : State → List Content → List ℕ
octets_of s rs = reports_of s.count s.clock rs

-- the area after some reports, which stand in it one after another
abbrev pub area_after : State → List Content → List ℕ → List ℕ
area_after s rs area = over (octets_of s rs) area

-- reports rs given in the state s: how many octets they are, the area that held them, and the state after them, other effects being in t
pub record Gives (s t : State) (rs : List Content) (before after : List ℕ) (end : State) (n : ℕ) : Type 0 where
  pub written : n ≡ length (octets_of s rs)
  pub area : after ≡ area_after s rs before
  pub state : end ≡ counted t rs
