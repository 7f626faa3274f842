-- To read first:
-- Settings.settings_of_both: the settings in force, of a text's own and of a host's
-- Words.resource_binding_of, switch_value_of: where a word says that a resource is bound, and when a case is executed
pub mod Settings
pub mod Words
