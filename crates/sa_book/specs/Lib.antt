pub mod SaRow
pub mod SaBook
pub mod SaRefusal
pub mod Numbers
