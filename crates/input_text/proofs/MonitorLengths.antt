-- A monitoring message fits into a record.
use Rattle.std.proofs.Common.{◌≤◌, length, arith}
use Rattle.record_io.specs.declared.reader.TheConstants.{MOST_RECORD_OCTETS}
use Rattle.fsr_log.specs.declared.messages.Monitoring.{Monitoring}
use Rattle.fsr_log.specs.declared.messages.Monitoring.TheVariants.{Ping, LogStatus, DumpLog, EraseLog, SelfTest}
use Rattle.fsr_log.specs.declared.messages.Monitoring.TheVariants.{AlarmReset}
use Rattle.fsr_log.specs.Message.{HasBlock, monitoring_octets}

pub monitoring_short : (message : Monitoring) → HasBlock message
    → length (monitoring_octets message) ≤ MOST_RECORD_OCTETS
monitoring_short Ping block = omega arith
monitoring_short LogStatus block = omega arith
monitoring_short DumpLog block = omega arith
monitoring_short EraseLog block = omega arith
monitoring_short (SelfTest octets) block = omega (arith, block)
monitoring_short AlarmReset block = omega arith
