-- The version of this library. Assumes nothing.
use Rattle.std.specs.Prelude.{ℕ, ◌+◌, ◌*◌}

abbrev pub major : ℕ
major = 1

abbrev pub minor : ℕ
minor = 1

abbrev pub patch : ℕ
patch = 0

-- of two versions the later one has the higher number, as long as minor and patch are below 1,000
abbrev pub version_number : ℕ
version_number = major * 1_000_000 + minor * 1_000 + patch
