-- The octets of a report, what is read back from them, and the reports one after another
use Rattle.std.specs.Prelude.{ℕ, ◌+◌, ◌-◌, ◌*◌, ◌/◌, ◌%◌, ◌^◌, Bool, cond, ◌&&◌, List, [], ◌∷◌, ◌++◌, length, take, drop, Some, None, Option, ◌==◌, nat_le, slice_index}
use Rattle.std.specs.List.{find}
use Rattle.check_field.specs.CheckField.{check_field}
use Rattle.report.specs.declared.Report.{Report}
use Rattle.report.specs.declared.ReportKind.{ReportKind}
use Rattle.report.specs.declared.ReportKind.TheVariants.{AcceptanceSuccess, AcceptanceFailure, CompletionSuccess, Status, Connection}

-- the list w laid over the start of e: what e has past the end of w stays
abbrev pub over : List ℕ → List ℕ → List ℕ
over w e = w ++ drop (length w) e

-- what a report says: its service type, its subtype and its body
pub record Content : Type 0 where
  pub service : ℕ
  pub subtype : ℕ
  pub body : List ℕ

-- the service type of each kind of report
abbrev pub service_of : ReportKind → ℕ
service_of AcceptanceSuccess = 1
service_of AcceptanceFailure = 1
service_of CompletionSuccess = 1
service_of Status = 11
service_of Connection = 17

-- the subtype of each kind of report
abbrev pub subtype_of : ReportKind → ℕ
subtype_of AcceptanceSuccess = 1
subtype_of AcceptanceFailure = 2
subtype_of CompletionSuccess = 7
subtype_of Status = 19
subtype_of Connection = 2

-- all kinds
abbrev pub kinds : List ReportKind
kinds = AcceptanceSuccess ∷ AcceptanceFailure ∷ CompletionSuccess ∷ Status ∷ Connection ∷ []

-- the kind of report with this service type and this subtype, if there is one
abbrev pub kind_of : ℕ → ℕ → Option ReportKind
kind_of s u = find (λ k. service_of k == s && subtype_of k == u) kinds

-- what a report of a kind says with a body
abbrev pub content_of : ReportKind → List ℕ → Content
content_of kind body = record { service = service_of kind; subtype = subtype_of kind; body = body }

-- the sequence count after n: fourteen bits, and 0 after the last
abbrev pub next_count : ℕ → ℕ
next_count n = (n + 1) % 16384

-- the sixteen octets before the body: `dataLength` is the number of octets in the packet, minus seven
abbrev pub head_of : ℕ → ℕ → ℕ → ℕ → ℕ → List ℕ
head_of service subtype count dataLength clock =
    8 ∷ 16 ∷ (192 + count / 256 % 64) ∷ (count % 256) ∷ (dataLength / 256 % 256) ∷ (dataLength % 256) ∷ 16 ∷ service ∷ subtype ∷ 0
    ∷ (clock / 2 ^ 40 % 256) ∷ (clock / 2 ^ 32 % 256) ∷ (clock / 2 ^ 24 % 256) ∷ (clock / 2 ^ 16 % 256) ∷ (clock / 2 ^ 8 % 256) ∷ (clock % 256) ∷ []

-- two octets of a number, the upper first
abbrev pub two_octets : ℕ → List ℕ
two_octets n = (n / 256 % 256) ∷ (n % 256) ∷ []

-- octets with their check field after them
unfoldable pub with_check : List ℕ → List ℕ
with_check octets = octets ++ two_octets (check_field octets)

-- the octets of one report: with this sequence count and this clock, saying this
unfoldable pub report_of : ℕ → ℕ → Content → List ℕ
report_of count clock content =
    with_check (head_of content.service content.subtype count (11 + length content.body) clock ++ content.body)

-- reports one after another at one clock, counted up from n
abbrev pub reports_of : ℕ → ℕ → List Content → List ℕ
reports_of n t [] = []
reports_of n t (r ∷ rs) = report_of n t r ++ reports_of (next_count n) t rs

-- a report with a body of n octets has a size that two octets hold, and goes into the room
abbrev pub fits : ℕ → ℕ → Bool
fits room n = nat_le n 65524 && nat_le (18 + n) room

-- how many octets a writer lays down, where the report fits
abbrev pub written_of : ℕ → ℕ → Option ℕ
written_of room n = cond (fits room n) (Some (18 + n)) None

-- what is read from a report: `size` is the number of its octets
pub record Fields : Type 0 where
  pub service : ℕ
  pub subtype : ℕ
  pub count : ℕ
  pub clock : ℕ
  pub size : ℕ
  pub body : List ℕ

-- how many octets the report at the start of p says that it has
abbrev pub size_in : List ℕ → ℕ
size_in p = slice_index p 4 * 256 + slice_index p 5 + 7

-- the clock in octets 10 to 15
abbrev pub clock_in : List ℕ → ℕ
clock_in p =
    slice_index p 10 * 2 ^ 40 + slice_index p 11 * 2 ^ 32 + slice_index p 12 * 2 ^ 24 + slice_index p 13 * 2 ^ 16 + slice_index p 14 * 2 ^ 8 + slice_index p 15

-- the octets and the two flag bits that are the same in every report are right
abbrev pub is_head : List ℕ → Bool
is_head p = slice_index p 0 == 8 && slice_index p 1 == 16 && slice_index p 2 / 64 == 3 && slice_index p 6 == 16 && slice_index p 9 == 0

-- a report of n octets is there in whole
abbrev pub is_whole : ℕ → List ℕ → Bool
is_whole n p = nat_le 18 n && nat_le n (length p)

-- the last two of the first n octets are the check field of those before
abbrev pub is_checked : ℕ → List ℕ → Bool
is_checked n p =
    (slice_index p (n - 2) == check_field (take (n - 2) p) / 256 % 256) && slice_index p (n - 1) == check_field (take (n - 2) p) % 256

-- what the report at the start of p says, where there is one
abbrev pub read_of : List ℕ → Option Fields
read_of p =
    cond (is_head p && is_whole (size_in p) p && is_checked (size_in p) p)
    (Some
    (record {
      service = slice_index p 7;
      subtype = slice_index p 8;
      count = (slice_index p 2 * 256 + slice_index p 3) % 16384;
      clock = clock_in p;
      size = size_in p;
      body = take (size_in p - 18) (drop 16 p);
    }))
    None

-- what is read from the report with this sequence count and this clock that says this
abbrev pub fields_of : ℕ → ℕ → Content → Fields
fields_of n t content =
    record {
      service = content.service;
      subtype = content.subtype;
      count = n % 16384;
      clock = t % 2 ^ 48;
      size = 18 + length content.body;
      body = content.body;
    }

-- a report that the code has read, by its fields
abbrev pub fields_in : Report → Fields
fields_in r =
    record {
      service = r.service;
      subtype = r.subtype;
      count = r.stamp.sequence_count;
      clock = r.stamp.clock;
      size = 18 + length r.body.now;
      body = r.body.now;
    }

-- what a reader's answer means
abbrev pub meant : Option Report → Option Fields
meant (Some r) = Some (fields_in r)
meant None = None
