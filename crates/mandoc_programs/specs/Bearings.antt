-- What a fault at a page, or at a folder of pages, means for the index that is made. Source: makewhatis(8), DIAGNOSTICS; errno(3).
use Rattle.std.specs.Prelude.{ℤ, pos, Bool, ◌||◌, if◌then◌else◌, Option, Some, None}
use Rattle.std.specs.Ordering.{int_eq}
use Rattle.std.specs.declared.io.ErrorKind.{ErrorKind}
use Rattle.std.specs.declared.io.ErrorKind.TheVariants as kind
use Rattle.page_core_base.specs.declared.faults.Fault.{Fault}
use Rattle.page_core_base.specs.declared.faults.Fault.TheVariants as fault
use Rattle.mandoc_programs.specs.declared.bearings.Bearing.{Bearing}
use Rattle.mandoc_programs.specs.declared.bearings.Bearing.TheVariants.{NoFault, LeavesOut, KeepsOld}

-- of a folder that can't be listed: one that is missing has no pages, and what another one has isn't known
abbrev pub bearing_of_folder : ErrorKind → Bearing
bearing_of_folder kind.NotFound = NoFault
bearing_of_folder _ = KeepsOld

-- the error numbers of memory that is refused (12), and of numbers of files, to the system (23) or to the program (24)
abbrev pub is_refusal : ℤ → Bool
is_refusal number = int_eq number (pos 12) || (int_eq number (pos 23) || int_eq number (pos 24))

-- of a page that can't be opened, by the number of the error
abbrev pub bearing_of_file : Option ℤ → Bearing
bearing_of_file (Some number) = if is_refusal number then KeepsOld else LeavesOut
bearing_of_file None = LeavesOut

-- of a page that ends by a fault
abbrev pub bearing_of_page : Fault → Bearing
bearing_of_page fault.Memory = KeepsOld
bearing_of_page _ = LeavesOut
