pub mod Indents
pub mod Settings
pub mod Styles
pub mod OpenStyles
pub mod Pen
pub mod Penned
pub mod Styled
pub mod Laws
