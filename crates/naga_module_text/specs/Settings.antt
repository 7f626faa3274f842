-- How modules are validated.
use Rattle.std.specs.Prelude.{Bool, Option, Some, None, ◌||◌, bit_and, bit_or}
use Rattle.naga_flags.specs.declared.flags.Capabilities.{Capabilities}
use Rattle.naga_flags.specs.declared.flags.ValidationFlags.{ValidationFlags}
use Rattle.naga_module_text.specs.declared.settings.Settings.{Settings}

-- what is validated, of what a text says and what a host says: what either says
abbrev pub flags_of_both : Option ValidationFlags → Option ValidationFlags → Option ValidationFlags
flags_of_both (Some own) (Some host) = Some (record { 0 = bit_or own.0 host.0 })
flags_of_both (Some own) None = Some own
flags_of_both None host = host

-- what a module may use, by what a text says and what a host says: what both allow
abbrev pub capabilities_of_both : Option Capabilities → Option Capabilities → Option Capabilities
capabilities_of_both (Some own) (Some host) = Some (record { 0 = bit_and own.0 host.0 })
capabilities_of_both (Some own) None = Some own
capabilities_of_both None host = host

-- whether overrides have to have their values, by what a text says and what a host says: if either says so
abbrev pub resolved_of_both : Option Bool → Option Bool → Option Bool
resolved_of_both (Some own) (Some host) = Some (own || host)
resolved_of_both (Some own) None = Some own
resolved_of_both None host = host

-- the settings in force, of a text's own and of a host's
abbrev pub settings_of_both : Settings → Settings → Settings
settings_of_both own host = record {
  flags = flags_of_both own.flags host.flags;
  capabilities = capabilities_of_both own.capabilities host.capabilities;
  resolved = resolved_of_both own.resolved host.resolved;
}
