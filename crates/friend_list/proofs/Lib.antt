pub mod ThoseBelow
