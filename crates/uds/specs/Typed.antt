-- Handed-out bytes as what the Rust returns typed.
use Rattle.std.specs.Prelude as code
use Rattle.std.specs.Prelude.{Some, None}
use Rattle.std.specs.Prelude.{ℕ, ◌*◌, cond, List, eqb, length, get_or}
use Rattle.rules.specs.Bytes.{u16_at}
use Rattle.uds.specs.declared.types.SessionParameterRecord.{SessionParameterRecord}
use Rattle.uds.specs.declared.types.DTCReportNumberByStatusMask.{DTCReportNumberByStatusMask}

abbrev pub session_record : List ℕ → code.Option SessionParameterRecord
session_record l =
    cond (eqb (length l) 4) (Some (record { p2_server_max = u16_at l 0; p2_star_server_max = u16_at l 2 * 10 })) None

abbrev pub power_down : List ℕ → code.Option ℕ
power_down l = cond (eqb (length l) 1) (Some (get_or l 0 0)) None

abbrev pub fault_report : List ℕ → code.Option DTCReportNumberByStatusMask
fault_report l =
    cond (eqb (length l) 4)
    (Some
    (record {
      dtc_status_availability_mask = get_or l 0 0;
      dtc_format_identifier = get_or l 1 0;
      dtc_count = u16_at l 2;
    }))
    None
