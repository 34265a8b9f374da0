-- The exit status of a run by its end (profile).
use Rattle.std.specs.Prelude.{ℕ}
use Rattle.record_io.specs.declared.status.TheConstants as statuses
use Rattle.text_streams.specs.declared.ends.End.{End}
use Rattle.text_streams.specs.declared.ends.End.TheVariants.{Done, LineFault, LongLine, CutAnswer, NoAnswer, NoItem}
use Rattle.text_streams.specs.declared.ends.End.TheVariants.{SourceFault, OutputFault, NoMemory}

-- what is at fault in the text, the items or the answers has one status
abbrev pub end_status : End → ℕ
end_status Done = statuses.DONE
end_status (LineFault line fault) = statuses.REFUSED
end_status (LongLine line) = statuses.REFUSED
end_status (CutAnswer offset) = statuses.REFUSED
end_status (NoAnswer offset) = statuses.REFUSED
end_status (NoItem offset) = statuses.REFUSED
end_status SourceFault = statuses.SOURCE_FAULT
end_status OutputFault = statuses.SITE_FAULT
end_status NoMemory = statuses.NO_MEMORY
